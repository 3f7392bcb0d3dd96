-- Lines that begin with a name as it is written, then a space.
use Rattle.std.proofs.Common.{◌≡◌, ℕ, zero, suc, ◌+◌, ◌<◌, Bool, true, false, cond, List, [], ◌∷◌, ◌++◌, map, length, take, drop, Some, None, Ok, Err, codes, IsUtf8, Option, Result, subst, sym, refl, ap, ◌∙◌, arith, nat_lt, slice_index_or}
use lib.Utf8.{encode, encodes}
use Rattle.std.specs.Char.{is_whitespace}
use Rattle.std.specs.Option.{option_map}
use Rattle.std.specs.Str.{chars}
use Rattle.std.proofs.lemmas.Str.{encodes-append, encodes_same, encodes-chars}
use Rattle.std.proofs.lemmas.Bool.Decides.{nat_tests}
use Rattle.sources.specs.declared.reason.Reason.TheVariants.{Short}
use Rattle.sources.specs.declared.fault.Fault.{Fault}
use Rattle.sources.specs.Faults.{fault}
use Rattle.sources.specs.Pieces.{strip_prefix}
use Rattle.sources.specs.White.{nth, white_words}
use Rattle.sources.specs.Words.{words_between}
use Rattle.sources.proofs.Ends.{strip_prefix-sound}
use Rattle.sources.proofs.Spaced.{utf8_after}
use Rattle.limits.specs.Entries.{Entry, is_heading, name_length, place_in, trimmed_entry, words_behind}
use Rattle.limits.specs.Names.{names, place_of}
use Rattle.limits.specs.Words.{word_at}

-- What is so of a name, at its place.
record Named (k : ℕ) (own : List ℕ) : Type 0 where
  parts : List (List ℕ)
  bytes : (r : List ℕ) → own ++ (32 ∷ r) ≡ encodes (own ++ (32 ∷ [])) ++ r
  words : (cs : List ℕ) → map encodes (words_between is_whitespace ((own ++ (32 ∷ [])) ++ cs)) ≡ parts ++ map encodes (words_between is_whitespace cs)
  place : place_of parts ≡ Some k
  some : nat_lt 0 (length parts) ≡ true
  heading : (r : List ℕ) → is_heading (own ++ (32 ∷ r)) ≡ false

Each : ℕ → List (List ℕ) → Type 0
Each k [] = Unit {0}
Each k (own ∷ owns) = Named k own × Each (k + 1) owns

each : Each 0 names
unfolding Each place_of encode chars
each = (
  record { parts = codes "Max" ∷ codes "cpu" ∷ codes "time" ∷ []; bytes = λ r. refl; words = λ cs. refl; place = refl; some = refl; heading = λ r. refl },
  (
    record { parts = codes "Max" ∷ codes "file" ∷ codes "size" ∷ []; bytes = λ r. refl; words = λ cs. refl; place = refl; some = refl; heading = λ r. refl },
    (
      record { parts = codes "Max" ∷ codes "data" ∷ codes "size" ∷ []; bytes = λ r. refl; words = λ cs. refl; place = refl; some = refl; heading = λ r. refl },
      (
        record { parts = codes "Max" ∷ codes "stack" ∷ codes "size" ∷ []; bytes = λ r. refl; words = λ cs. refl; place = refl; some = refl; heading = λ r. refl },
        (
          record { parts = codes "Max" ∷ codes "core" ∷ codes "file" ∷ codes "size" ∷ []; bytes = λ r. refl; words = λ cs. refl; place = refl; some = refl; heading = λ r. refl },
          (
            record { parts = codes "Max" ∷ codes "resident" ∷ codes "set" ∷ []; bytes = λ r. refl; words = λ cs. refl; place = refl; some = refl; heading = λ r. refl },
            (
              record { parts = codes "Max" ∷ codes "processes" ∷ []; bytes = λ r. refl; words = λ cs. refl; place = refl; some = refl; heading = λ r. refl },
              (
                record { parts = codes "Max" ∷ codes "open" ∷ codes "files" ∷ []; bytes = λ r. refl; words = λ cs. refl; place = refl; some = refl; heading = λ r. refl },
                (
                  record { parts = codes "Max" ∷ codes "locked" ∷ codes "memory" ∷ []; bytes = λ r. refl; words = λ cs. refl; place = refl; some = refl; heading = λ r. refl },
                  (
                    record { parts = codes "Max" ∷ codes "address" ∷ codes "space" ∷ []; bytes = λ r. refl; words = λ cs. refl; place = refl; some = refl; heading = λ r. refl },
                    (
                      record { parts = codes "Max" ∷ codes "file" ∷ codes "locks" ∷ []; bytes = λ r. refl; words = λ cs. refl; place = refl; some = refl; heading = λ r. refl },
                      (
                        record { parts = codes "Max" ∷ codes "pending" ∷ codes "signals" ∷ []; bytes = λ r. refl; words = λ cs. refl; place = refl; some = refl; heading = λ r. refl },
                        (
                          record { parts = codes "Max" ∷ codes "msgqueue" ∷ codes "size" ∷ []; bytes = λ r. refl; words = λ cs. refl; place = refl; some = refl; heading = λ r. refl },
                          (
                            record { parts = codes "Max" ∷ codes "nice" ∷ codes "priority" ∷ []; bytes = λ r. refl; words = λ cs. refl; place = refl; some = refl; heading = λ r. refl },
                            (
                              record { parts = codes "Max" ∷ codes "realtime" ∷ codes "priority" ∷ []; bytes = λ r. refl; words = λ cs. refl; place = refl; some = refl; heading = λ r. refl },
                              (
                                record { parts = codes "Max" ∷ codes "realtime" ∷ codes "timeout" ∷ []; bytes = λ r. refl; words = λ cs. refl; place = refl; some = refl; heading = λ r. refl },
                                tt,
                              ),
                            ),
                          ),
                        ),
                      ),
                    ),
                  ),
                ),
              ),
            ),
          ),
        ),
      ),
    ),
  ),
)

at : (k place : ℕ) (owns : List (List ℕ)) → Each k owns → place < length owns → Named (place + k) (slice_index_or owns place [])
unfolding Each
at k place [] h l = absurd (omega arith)
at k zero (own ∷ owns) h l = subst (λ n. Named n own) (omega arith) h.0
at k (suc place) (own ∷ owns) h l = subst (λ n. Named n (slice_index_or owns place [])) (omega arith) (at (k + 1) place owns h.1 (omega arith))

-- the characters of a text in two parts
two : (s t gs : List ℕ) → IsUtf8 s → IsUtf8 t → s ≡ encodes gs ++ t → chars s ≡ gs ++ chars t
two s t gs us ut e = encodes_same (chars s) (gs ++ chars t) (encodes-chars s us ∙ e ∙ sym (encodes-append gs (chars t) ∙ rw (encodes-chars t ut) refl))

pub rest_utf8 : (t r : List ℕ) (place : ℕ) → IsUtf8 t → place < 16 → t ≡ slice_index_or names place [] ++ (32 ∷ r) → IsUtf8 r
rest_utf8 t r place ut lp et =
    let own = slice_index_or names place [] in
    let n : Named (place + 0) own = at 0 place names each lp in
    utf8_after t (own ++ (32 ∷ [])) r ut (et ∙ n.bytes r)

entry_as : (heading short : Bool) (place : Option ℕ) (a b c d : List ℕ) (k : ℕ) → heading ≡ false → short ≡ false → place ≡ Some k → a ≡ c → b ≡ d
    → cond {A = Result (Option Entry) Fault} heading (Ok None) (cond short (Err (fault Short)) (Ok (option_map (λ place. (place + 1, (a, b))) place))) ≡ Ok (Some (k + 1, (c, d)))
entry_as heading short place a b c d k eh es ep ea eb = rw (eh, es, ep, ea, eb) refl

front : {X : Type 0} (xs ys : List X) → take (length xs) (xs ++ ys) ≡ xs
front [] ys = refl
front (x ∷ xs) ys = ap (λ zs. x ∷ zs) (front xs ys)

behind : (n : ℕ) (xs ys : List (List ℕ)) → word_at (length xs + n) (xs ++ ys) ≡ word_at n ys
behind n [] ys = ap (λ m. word_at m ys) (omega arith)
behind n (x ∷ xs) ys =
    let e : suc (length xs) + n ≡ suc (length xs + n) = omega arith in
    ap (λ m. word_at m (x ∷ (xs ++ ys))) e ∙ behind n xs ys

longer : {X : Type 0} (xs ys : List X) → length (xs ++ ys) ≡ length xs + length ys
longer [] ys = omega arith
longer (x ∷ xs) ys = omega (arith, longer xs ys)

entry_in : (t : List ℕ) (k : ℕ) (parts : List (List ℕ)) (soft hard : List ℕ) (more : List (List ℕ)) → is_heading t ≡ false → white_words t ≡ parts ++ (soft ∷ hard ∷ more)
    → place_of parts ≡ Some k → nat_lt 0 (length parts) ≡ true → length more + 2 ≡ words_behind t → trimmed_entry t ≡ Ok (Some (k + 1, (soft, hard)))
entry_in t k parts soft hard more eh ew ep es eb =
    let l : length (white_words t) ≡ length parts + length (soft ∷ hard ∷ more) = ap length ew ∙ longer parts _ in
    let n : name_length t ≡ length parts = omega (arith, l, eb) in
    let long : nat_lt (length (white_words t)) 3 ≡ false = grind (arith, nat_tests, l, es) in
    let p : place_in t ≡ Some k = ap (λ m. place_of (take m (white_words t))) n ∙ ap (λ ws. place_of (take (length parts) ws)) ew ∙ ap place_of (front parts _) ∙ ep in
    let a : word_at (name_length t) (white_words t) ≡ soft = ap (λ m. word_at m (white_words t)) n ∙ ap (word_at (length parts)) ew ∙ ap (λ m. word_at m (parts ++ (soft ∷ hard ∷ more))) (omega arith) ∙ behind 0 parts _ in
    let b : word_at (name_length t + 1) (white_words t) ≡ hard = ap (λ m. word_at (m + 1) (white_words t)) n ∙ ap (word_at (length parts + 1)) ew ∙ behind 1 parts _ in
    entry_as _ _ _ _ _ _ _ k eh long p a b

two_first : (soft hard : List ℕ) (ws : List (List ℕ)) → Some soft ≡ nth 0 ws → Some hard ≡ nth 0 (drop 1 ws) → ws ≡ soft ∷ hard ∷ drop 1 (drop 1 ws)
two_first soft hard [] s h = cc
two_first soft hard (w ∷ []) s h = cc
two_first soft hard (w ∷ v ∷ ws) s h = cc

pub plain_entry : (t r : List ℕ) (place : ℕ) (soft hard : List ℕ) → IsUtf8 t → IsUtf8 r → place < 16 → t ≡ slice_index_or names place [] ++ (32 ∷ r)
    → Some soft ≡ nth 0 (white_words r) → Some hard ≡ nth 0 (drop 1 (white_words r)) → length (drop 1 (drop 1 (white_words r))) + 2 ≡ words_behind t
    → trimmed_entry t ≡ Ok (Some (place + 1, (soft, hard)))
plain_entry t r place soft hard ut ur lp et es eh el =
    let own = slice_index_or names place [] in
    let n : Named (place + 0) own = at 0 place names each lp in
    let ws : white_words t ≡ n.parts ++ white_words r = ap (λ cs. map encodes (words_between is_whitespace cs)) (two t r (own ++ (32 ∷ [])) ut ur (et ∙ n.bytes r)) ∙ n.words (chars r) in
    entry_in t place n.parts soft hard _ (ap is_heading et ∙ n.heading r) (ws ∙ ap (λ vs. n.parts ++ vs) (two_first soft hard _ es eh)) (n.place ∙ ap Some (omega arith)) n.some el

pub past_two : (p bs x r : List ℕ) → Some x ≡ strip_prefix p bs → Some r ≡ strip_prefix (32 ∷ []) x → bs ≡ p ++ (32 ∷ r)
past_two p bs x r e f = strip_prefix-sound p bs x (sym e) ∙ ap (λ ys. p ++ ys) (strip_prefix-sound (32 ∷ []) x r (sym f))
