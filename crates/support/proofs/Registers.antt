-- Registers read one after the other.
use Rattle.std.proofs.Common.{◌≡◌, ℕ, suc, List, [], ◌∷◌, ◌++◌, take, length, Ok, Err, Result, refl, ap, append_assoc, sym, ◌∙◌, arith, ◌+◌, ◌-◌, ◌<◌, slice_set}
use Rattle.std.specs.Prelude.{slice_index}
use Rattle.std.proofs.lemmas.List.{take_more_set}
use Rattle.sources.specs.declared.fault.Fault.{Fault}
use Rattle.sources.specs.declared.reason.Reason.TheVariants.{Short}
use Rattle.sources.specs.Faults.{fault, and_then}
use Rattle.support.specs.declared.syscall.Syscall.TheVariants.{Blocked}
use Rattle.support.specs.Calls.{blocked_of, call_number_of, register_of, registers_of, read_first, six}

-- Those that were read before others, and then these.
abbrev pub behind : List ℕ → Result (List ℕ) Fault → Result (List ℕ) Fault
behind xs r = and_then r (λ rs. Ok (xs ++ rs))

-- One more register, and it is read.
one_more : (xs : List ℕ) (x : ℕ) (o : Result (List ℕ) Fault) → behind xs (and_then o (λ rs. Ok (x ∷ rs))) ≡ behind (xs ++ (x ∷ [])) o
one_more xs x (Ok rs) = ap Ok (sym (append_assoc xs (x ∷ []) rs))
one_more xs x (Err f) = refl

-- What the first of the pieces is, by the answer and what it leaves.
next_good : (xs : List ℕ) (n : ℕ) (ps qs : List (List ℕ)) (x : ℕ) → (Ok x, qs) ≡ read_first register_of ps → behind xs (registers_of (suc n) ps) ≡ behind (xs ++ (x ∷ [])) (registers_of n qs)
next_good xs n [] qs x e = let i : Ok x ≡ Err (fault Short) = ap (λ q. q.0) e in cc
next_good xs n (p ∷ ps) qs x e =
    let i : register_of p ≡ Ok x = ap (λ q. q.0) (sym e) in
    let j : qs ≡ ps = ap (λ q. q.1) e in
    ap (λ (o : Result ℕ Fault). behind xs (and_then o (λ r. and_then (registers_of n ps) (λ rs. Ok (r ∷ rs))))) i ∙ one_more xs x (registers_of n ps) ∙ ap (λ (q : List (List ℕ)). behind (xs ++ (x ∷ [])) (registers_of n q)) (sym j)

pub next_bad : (xs : List ℕ) (n : ℕ) (ps qs : List (List ℕ)) (f : Fault) → (Err f, qs) ≡ read_first register_of ps → behind xs (registers_of (suc n) ps) ≡ Err f
next_bad xs n [] qs f e =
    let i : ◌≡◌ {A = Result ℕ Fault} (Err f) (Err (fault Short)) = ap (λ q. q.0) e in
    let j : fault Short ≡ f = cc in
    ap Err j
next_bad xs n (p ∷ ps) qs f e =
    let i : register_of p ≡ Err f = ap (λ q. q.0) (sym e) in
    ap (λ (o : Result ℕ Fault). behind xs (and_then o (λ r. and_then (registers_of n ps) (λ rs. Ok (r ∷ rs))))) i

-- What a turn of the loop makes of what the turns before it left.
pub turn_good : (all : Result (List ℕ) Fault) (xs : List ℕ) (i x : ℕ) (ps qs : List (List ℕ)) → length xs ≡ 8 → i < 8
    → all ≡ behind (take i xs) (registers_of (8 - i) ps) → (Ok x, qs) ≡ read_first register_of ps
    → all ≡ behind (take (i + 1) (slice_set xs i x)) (registers_of (8 - (i + 1)) qs)
turn_good all xs i x ps qs size lt h e =
    let k : 8 - i ≡ suc (8 - (i + 1)) = omega arith in
    let t : take (i + 1) (slice_set xs i x) ≡ take i xs ++ (x ∷ []) = take_more_set xs i x (omega arith) in
    h ∙ ap (λ (n : ℕ). behind (take i xs) (registers_of n ps)) k ∙ next_good (take i xs) (8 - (i + 1)) ps qs x e ∙ ap (λ (ys : List ℕ). behind ys (registers_of (8 - (i + 1)) qs)) (sym t)

pub turn_bad : (all : Result (List ℕ) Fault) (xs : List ℕ) (i : ℕ) (f : Fault) (ps qs : List (List ℕ)) → i < 8
    → all ≡ behind (take i xs) (registers_of (8 - i) ps) → (Err f, qs) ≡ read_first register_of ps
    → all ≡ Err f
turn_bad all xs i f ps qs lt h e =
    let k : 8 - i ≡ suc (8 - (i + 1)) = omega arith in
    h ∙ ap (λ (n : ℕ). behind (take i xs) (registers_of n ps)) k ∙ next_bad (take i xs) (8 - (i + 1)) ps qs f e

-- A process that is blocked, by its first piece and the pieces behind it.
pub blocked_by : (ps : List (List ℕ)) → blocked_of ps ≡ and_then (read_first call_number_of ps).0 (λ number. and_then (registers_of 8 (read_first call_number_of ps).1) (λ rs. Ok (Blocked number (six rs) (slice_index rs 6) (slice_index rs 7))))
blocked_by [] = refl
blocked_by (p ∷ ps) = refl
