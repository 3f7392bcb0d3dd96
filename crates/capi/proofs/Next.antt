-- What the cells hold after a call.
use Rattle.std.proofs.Common.{◌≡◌, ◌∙◌, sym, ap, refl, subst, ℕ, ℤ, Bool, true, false, ◌==◌, List, Option, Some, None, Ok, Err, Result, map, length, cond, IsOk}
use Rattle.std.specs.Option.{unwrap_or}
use Rattle.sources.specs.declared.fault.Refusal.{Refusal}
use Rattle.sources.specs.Texts.{Text}
use Rattle.kinds.specs.declared.measure.Closed.{Closed}
use Rattle.packing.specs.declared.place.Place.{Place}
use Rattle.packing.specs.Packed.{Packing, packing}
use Rattle.packing.specs.Restored.{kept_well}
use Rattle.packing.specs.Calls.{admit_refusal, remeasure_refusal, unknown_refusal, admit_of, remeasure_of, note_of, bound_of, release_of, handing, leaving, keeping, note_in as noted_in, bounds_in as bounds_read}
use Rattle.capi.specs.declared.cell.Cell.{Cell}
use Rattle.capi.specs.Cells.{place_in, list_in}
use Rattle.capi.specs.Exports.{bare, without_text}
use Rattle.capi.specs.Next.{HoldsNext}

abbrev Called : Type 0
Called = Result (Unit {0}) Refusal × Packing

picked : (a b : Bool) (x l : Packing) → cond a (cond b (Some x) None) None ≡ Some l → l ≡ x
picked true true x l e = sym (ap (λ (o : Option Packing). unwrap_or o l) e)
picked true false x l e = absurd (cc)
picked false b x l e = absurd (cc)

-- A list that cells hold has their places.
in_cells : (limit : ℕ) (cells : List Cell) (l : Packing) → list_in limit cells ≡ Some l → l ≡ packing limit (map place_in cells)
unfolding list_in
in_cells limit cells l e = picked (length cells == 64) (kept_well (map place_in cells)) (packing limit (map place_in cells)) l e

none_picked : {A : Type 0} (a b : Bool) (x y l : Packing) → cond a (cond b (Some x) None) None ≡ None → cond a (cond b (Some y) None) None ≡ Some l → A
none_picked {A} true true x y l n e = absurd (cc)
none_picked {A} true false x y l n e = absurd (cc)
none_picked {A} false b x y l n e = absurd (cc)

-- Whether cells hold a list is one question for all limits.
pub no_list : {A : Type 0} (m limit : ℕ) (cells : List Cell) (l : Packing) → list_in m cells ≡ None → list_in limit cells ≡ Some l → A
unfolding list_in
no_list {A} m limit cells l n e = none_picked (length cells == 64) (kept_well (map place_in cells)) (packing m (map place_in cells)) (packing limit (map place_in cells)) l n e

-- The same answer, and the same places under another limit.
abbrev under : ℕ → Called → Called
under k c = (c.0, packing k c.1.places)

abbrev Alike : (Packing → Called) → ℕ → ℕ → Type 0
Alike call k m = (ps : List (Option Place)) → call (packing k ps) ≡ under k (call (packing m ps))

-- A call made under the limit m, told of the list under the limit k.
pub next : (call : Packing → Called) (k m : ℕ) → Alike call k m → (old new : List Cell) (l1 l2 : Packing) (r : Result (Unit {0}) Refusal) → list_in m old ≡ Some l1 → (r, l2) ≡ call l1
    → (IsOk r → (limit : ℕ) → list_in limit new ≡ Some (packing limit l2.places)) → HoldsNext call k old new
next call k m alike old new l1 l2 r e f h l q ok =
    let same : call l ≡ under k (r, l2) =
    ap call (in_cells k old l q) ∙ alike (map place_in old) ∙ ap (under k) (sym (ap call (in_cells m old l1 e)) ∙ sym f) in
    let accepted : IsOk r = subst (λ (c : Called). IsOk c.0) same ok in
    h accepted k ∙ ap (λ (c : Called). Some c.1) (sym same)

handed_alike : (o : Option Refusal) (c : Closed) (k m : ℕ) (xs ps : List (Option Place)) → bare (handing o c (packing k xs) (packing k ps)) ≡ under k (bare (handing o c (packing m xs) (packing m ps)))
handed_alike None c k m xs ps = refl
handed_alike (Some f) c k m xs ps = refl

left_alike : (o : Option Refusal) (k m : ℕ) (xs ps : List (Option Place)) → leaving o (packing k xs) (packing k ps) ≡ under k (leaving o (packing m xs) (packing m ps))
left_alike None k m xs ps = refl
left_alike (Some f) k m xs ps = refl

kept_alike : {X : Type 0} (o : Option Refusal) (change : X → Place → Place) (pid : ℤ) (read : Result X Refusal × Text) (t : Text) → (k m : ℕ) (ps : List (Option Place)) → without_text (keeping o change pid read t (packing k ps)) ≡ under k (without_text (keeping o change pid read t (packing m ps)))
kept_alike {X} None change pid (Ok x, left) t k m ps = refl
kept_alike {X} None change pid (Err f, left) t k m ps = refl
kept_alike {X} (Some f) change pid read t k m ps = refl

pub admit_alike : (pid : ℤ) (headroom : ℕ) (c : Closed) (m : ℕ) → Alike (λ l. bare (admit_of pid headroom c l)) m m
admit_alike pid headroom c m ps = handed_alike (admit_refusal pid headroom c (packing m ps)) c m m _ ps

pub remeasure_alike : (pid : ℤ) (c : Closed) (k m : ℕ) → Alike (λ l. bare (remeasure_of pid c l)) k m
unfolding remeasure_refusal
remeasure_alike pid c k m ps = handed_alike (remeasure_refusal pid c (packing k ps)) c k m _ ps

pub release_alike : (pid : ℤ) (k m : ℕ) → Alike (release_of pid) k m
unfolding unknown_refusal
release_alike pid k m ps = left_alike (unknown_refusal pid (packing k ps)) k m _ ps

pub note_alike : (pid : ℤ) (t : Text) (k m : ℕ) → Alike (λ l. without_text (note_of pid t l)) k m
unfolding unknown_refusal
note_alike pid t k m ps = kept_alike (unknown_refusal pid (packing k ps)) _ pid (noted_in pid t) t k m ps

pub bound_alike : (pid : ℤ) (t : Text) (k m : ℕ) → Alike (λ l. without_text (bound_of pid t l)) k m
unfolding unknown_refusal
bound_alike pid t k m ps = kept_alike (unknown_refusal pid (packing k ps)) _ pid (bounds_read t) t k m ps
