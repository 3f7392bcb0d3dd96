-- What the definition of a reading says of the next line.
use Rattle.std.proofs.Common.{◌≡◌, ℕ, ◌+◌, ◌<◌, ◌≤◌, Bool, true, false, List, [], length, take, drop, Some, None, Ok, Err, Option, Result, sym, refl, ap, ◌∙◌, arith, le-ltb, lt-ltb}
use Rattle.std.proofs.lemmas.List.{take-append-drop}
use Rattle.sources.specs.Bytes.{through}
use Rattle.sources.specs.Utf8.{is_utf8}
use Rattle.sources.specs.Lines.{lines_of, walk, judged, Outcome, broke, on_fault}
use Rattle.sources.specs.Faults.{at_line, refused}
use Rattle.sources.specs.Rules.{Rules}
use Rattle.sources.specs.declared.fault.Fault.{Fault}
use Rattle.sources.specs.declared.reason.Reason.TheVariants as reason
use Rattle.sources.specs.declared.fault.Refusal.{Refusal}
use Rattle.sources.specs.Rules.{verdict}
use Rattle.sources.specs.Came.{Lined, Comes}
use Rattle.sources.specs.declared.drive.Next.TheVariants.{Line, Lost, Long}
use Rattle.sources.proofs.Through.{through-≤}
use Rattle.sources.proofs.Steps.{walk-some, judged-long, judged-past, judged-broken, judged-text, judged-kind}

pub turn_ended : {M C : Type 0} {xs : List ℕ} {broken : Bool} {xs' : List ℕ} (room most : ℕ) (R : Rules M C) (taken size : ℕ) (m : M) →
    (xs ≡ []) × (broken ≡ false) × (xs' ≡ []) → walk room most R broken taken size m (lines_of xs) ≡ (Ok taken, m, xs')
unfolding walk lines_of
turn_ended {M} {C} {xs} {broken} {xs'} room most R taken size m k = rw (k.0, k.1, k.2)

pub turn_broken : {M C : Type 0} {xs : List ℕ} {broken : Bool} {xs' : List ℕ} (room most : ℕ) (R : Rules M C) (taken size : ℕ) (m : M) →
    (xs ≡ []) × (broken ≡ true) × (xs' ≡ []) → walk room most R broken taken size m (lines_of xs) ≡ (broke R.on_break taken, m, xs')
unfolding walk lines_of
turn_broken {M} {C} {xs} {broken} {xs'} room most R taken size m k = rw (k.0, k.1, k.2)

pub turn_long : {M C : Type 0} (room most : ℕ) (R : Rules M C) (broken : Bool) (taken size : ℕ) (m : M) (xs buf' xs' : List ℕ) →
    Comes room xs broken Long buf' xs' → walk room most R broken taken size m (lines_of xs) ≡ (Err (refused reason.LongLine (taken + 1)), m, xs')
turn_long {M} {C} room most R broken taken size m xs buf' xs' k =
    walk-some room most R broken taken size m xs k.0
    ∙ judged-long room most R broken taken size m (take (through xs) xs) (drop (through xs) xs) _ k.1
    ∙ ap (λ (l : List ℕ). (Err (refused reason.LongLine (taken + 1)), m, drop room l)) (take-append-drop (through xs) xs)
    ∙ ap (λ (l : List ℕ). (Err (refused reason.LongLine (taken + 1)), m, l)) (sym k.2)

turn : {M C : Type 0} {room : ℕ} {xs : List ℕ} {n : ℕ} {buf' xs' : List ℕ} (most : ℕ) (R : Rules M C) (broken : Bool) (taken size : ℕ) (m : M) →
    Lined room xs n buf' xs' →
    walk room most R broken taken size m (lines_of xs) ≡ judged room most R broken taken size m (take n xs) xs'
    (walk room most R broken (taken + 1) (size + n) (R.next m (take n xs)) (lines_of xs'))
turn {M} {C} {room} {xs} {n} {buf'} {xs'} most R broken taken size m s =
    let h : 0 < length xs = omega (arith, s.some, s.is, through-≤ xs) in
    walk-some room most R broken taken size m xs h
    ∙ ap (λ (k : ℕ). judged room most R broken taken size m (take k xs) (drop k xs)
    (walk room most R broken (taken + 1) (size + length (take k xs)) (R.next m (take k xs)) (lines_of (drop k xs)))) (sym s.is)
    ∙ ap (λ (k : ℕ). judged room most R broken taken size m (take n xs) (drop n xs)
    (walk room most R broken (taken + 1) (size + k) (R.next m (take n xs)) (lines_of (drop n xs)))) s.fits
    ∙ ap (λ (l : List ℕ). judged room most R broken taken size m (take n xs) l
    (walk room most R broken (taken + 1) (size + n) (R.next m (take n xs)) (lines_of l))) (sym s.left)

pub turn_past : {M C : Type 0} {room : ℕ} {xs : List ℕ} {n : ℕ} {buf' xs' : List ℕ} (most : ℕ) (R : Rules M C) (broken : Bool) (taken size : ℕ) (m : M) →
    Lined room xs n buf' xs' → most < size + n →
    walk room most R broken taken size m (lines_of xs) ≡ (Err (refused reason.LongText (taken + 1)), m, xs')
turn_past {M} {C} {room} {xs} {n} {buf'} {xs'} most R broken taken size m s h =
    turn most R broken taken size m s
    ∙ judged-past room most R broken taken size m (take n xs) xs' _ s.short (lt-ltb most (size + length (take n xs)) (omega (arith, s.fits)))

pub turn_lost : {M C : Type 0} {room : ℕ} {xs : List ℕ} {n : ℕ} {buf' xs' : List ℕ} (most : ℕ) (R : Rules M C) (broken : Bool) (taken size : ℕ) (m : M) →
    Comes room xs broken (Lost n) buf' xs' → size + n ≤ most →
    walk room most R broken taken size m (lines_of xs) ≡ (broke R.on_break taken, m, xs')
turn_lost {M} {C} {room} {xs} {n} {buf'} {xs'} most R broken taken size m k h =
    turn most R broken taken size m k.0
    ∙ judged-broken room most R broken taken size m (take n xs) xs' _ k.0.short (le-ltb most (size + length (take n xs)) (omega (arith, k.0.fits))) k.1 k.2

pub turn_text : {M C : Type 0} {room : ℕ} {xs : List ℕ} {n : ℕ} {buf' xs' : List ℕ} (most : ℕ) (R : Rules M C) (broken : Bool) (taken size : ℕ) (m : M) →
    Comes room xs broken (Line n) buf' xs' → size + n ≤ most → is_utf8 (take n xs) ≡ false →
    walk room most R broken taken size m (lines_of xs) ≡ (broke R.on_break taken, m, xs')
turn_text {M} {C} {room} {xs} {n} {buf'} {xs'} most R broken taken size m k h b =
    turn most R broken taken size m k.0
    ∙ judged-text room most R broken taken size m (take n xs) xs' _ k.0.short (le-ltb most (size + length (take n xs)) (omega (arith, k.0.fits))) k.1 b

pub turn_kind : {M C : Type 0} {room : ℕ} {xs : List ℕ} {n : ℕ} {buf' xs' : List ℕ} (most : ℕ) (R : Rules M C) (broken : Bool) (taken size : ℕ) (m : M) →
    Comes room xs broken (Line n) buf' xs' → size + n ≤ most → is_utf8 (take n xs) ≡ true →
    walk room most R broken taken size m (lines_of xs) ≡ on_fault (R.refused (R.next m (take n xs))) (taken + 1) (R.next m (take n xs)) xs'
    (walk room most R broken (taken + 1) (size + n) (R.next m (take n xs)) (lines_of xs'))
turn_kind {M} {C} {room} {xs} {n} {buf'} {xs'} most R broken taken size m k h b =
    turn most R broken taken size m k.0
    ∙ judged-kind room most R broken taken size m (take n xs) xs' _ k.0.short (le-ltb most (size + length (take n xs)) (omega (arith, k.0.fits))) k.1 b

-- the kind's answer, with its line
pub went : {M : Type 0} (o : Option Fault) (line : ℕ) (m : M) (left : List ℕ) (go : Outcome M) (r : Result (Unit {0}) Refusal) (u : Unit {0}) → r ≡ at_line line (verdict o) → r ≡ Ok u → on_fault o line m left go ≡ go
went {M} None line m left go r u a b = refl
went {M} (Some f) line m left go r u a b = let z : ◌≡◌ {A = ℕ} 0 1 = cc in absurd (omega arith)

pub stopped : {M : Type 0} (o : Option Fault) (line : ℕ) (m : M) (left : List ℕ) (go : Outcome M) (r : Result (Unit {0}) Refusal) (f : Refusal) → r ≡ at_line line (verdict o) → r ≡ Err f → on_fault o line m left go ≡ (Err f, m, left)
stopped {M} None line m left go r f a b = let z : ◌≡◌ {A = ℕ} 0 1 = cc in absurd (omega arith)
stopped {M} (Some k) line m left go r f a b = let e : record { reason = k.reason; line = line; field = k.field } ≡ f = cc in ap (λ (x : Refusal). (Err x, m, left)) e

pub turn_stopped : {M C : Type 0} {room : ℕ} {xs : List ℕ} {n : ℕ} {buf' xs' : List ℕ} (most : ℕ) (R : Rules M C) (broken : Bool) (taken size : ℕ) (m : M) →
    Comes room xs broken (Line n) buf' xs' → size + n ≤ most → is_utf8 (take n xs) ≡ true →
    (m' : M) (line : List ℕ) (a : Result (Unit {0}) Fault) (r : Result (Unit {0}) Refusal) → line ≡ take n xs → m' ≡ R.next m line → a ≡ verdict (R.refused m') → r ≡ at_line (taken + 1) a →
    (f : Refusal) → r ≡ Err f → walk room most R broken taken size m (lines_of xs) ≡ (Err f, m', xs')
turn_stopped {M} {C} {room} {xs} {n} {buf'} {xs'} most R broken taken size m k h b m' line a r e0 e1 e2 e3 f e4 =
    let w : m' ≡ R.next m (take n xs) = e1 ∙ ap (λ (l : List ℕ). R.next m l) e0 in
    let q : r ≡ at_line (taken + 1) (verdict (R.refused (R.next m (take n xs)))) = e3 ∙ ap (λ (x : Result (Unit {0}) Fault). at_line (taken + 1) x) (e2 ∙ ap (λ (x : M). verdict (R.refused x)) w) in
    turn_kind most R broken taken size m k h b ∙ stopped (R.refused (R.next m (take n xs))) (taken + 1) (R.next m (take n xs)) xs' _ r f q e4
    ∙ ap (λ (x : M). (Err f, x, xs')) (sym w)

pub turn_went : {M C : Type 0} {room : ℕ} {xs : List ℕ} {n : ℕ} {buf' xs' : List ℕ} (most : ℕ) (R : Rules M C) (broken : Bool) (taken size : ℕ) (m : M) →
    Comes room xs broken (Line n) buf' xs' → size + n ≤ most → is_utf8 (take n xs) ≡ true →
    (m' : M) (line : List ℕ) (a : Result (Unit {0}) Fault) (r : Result (Unit {0}) Refusal) → line ≡ take n xs → m' ≡ R.next m line → a ≡ verdict (R.refused m') → r ≡ at_line (taken + 1) a →
    (u : Unit {0}) → r ≡ Ok u → walk room most R broken taken size m (lines_of xs) ≡ walk room most R broken (taken + 1) (size + n) m' (lines_of xs')
turn_went {M} {C} {room} {xs} {n} {buf'} {xs'} most R broken taken size m k h b m' line a r e0 e1 e2 e3 u e4 =
    let w : m' ≡ R.next m (take n xs) = e1 ∙ ap (λ (l : List ℕ). R.next m l) e0 in
    let q : r ≡ at_line (taken + 1) (verdict (R.refused (R.next m (take n xs)))) = e3 ∙ ap (λ (x : Result (Unit {0}) Fault). at_line (taken + 1) x) (e2 ∙ ap (λ (x : M). verdict (R.refused x)) w) in
    turn_kind most R broken taken size m k h b ∙ went (R.refused (R.next m (take n xs))) (taken + 1) (R.next m (take n xs)) xs' _ r u q e4
    ∙ ap (λ (x : M). walk room most R broken (taken + 1) (size + n) x (lines_of xs')) (sym w)
