-- A newer edition of a text reads the same.
use Rattle.std.proofs.Common.{◌≡◌, ℕ, ◌+◌, ◌≤◌, Bool, true, false, cond, not, eqb, ltb, List, [], ◌∷◌, length, Some, None, Ok, Err, Option, Result, sym, refl, ap, ◌∙◌, subst, inl, inr, arith, length-append, le-ltb}
use Rattle.std.proofs.lemmas.List.{take_all}
use Rattle.std.proofs.lemmas.Bool.{cases_Bool}
use Rattle.sources.specs.declared.fault.Fault.{Fault}
use Rattle.sources.specs.declared.fault.Refusal.{Refusal}
use Rattle.sources.specs.Utf8.{is_utf8}
use Rattle.sources.specs.Lines.{text_of, ended, full, long, lost, walk, judged, Outcome, broke, at_end, on_fault, reading, course, closing, leaves}
use Rattle.sources.specs.Faults.{at_line}
use Rattle.sources.specs.Rules.{Rules, ForeignIsAside, BeginsWithALine}
use Rattle.sources.specs.declared.kind.Break.{Break}
use Rattle.sources.specs.declared.kind.Break.TheVariants.{Refuses, Ends}
use Rattle.sources.specs.Editions.{Edition, over, keep, more, Same, NewerReadsSame}
use Rattle.sources.proofs.Split.{text_lines}
use Rattle.sources.proofs.Steps.{judged-long, judged-cut, judged-text, judged-kind}

-- two courses that end alike
Alike : Result ℕ Refusal → Result ℕ Refusal → Type 0
Alike (Ok v) (Ok w) = Unit {0}
Alike (Ok v) (Err g) = ⊥
Alike (Err f) (Ok w) = ⊥
Alike (Err f) (Err g) = (f.reason ≡ g.reason) × (f.field ≡ g.field)

Like : {M : Type 0} → Outcome M → Outcome M → Type 0
Like {M} o p = Alike o.0 p.0 × (o.1 ≡ p.1)

like_broke : (b : Break) (k k' : ℕ) → Alike (broke b k) (broke b k')
unfolding Alike
like_broke Ends k k' = tt
like_broke Refuses k k' = (refl, refl)

like_ending : {M C : Type 0} (R : Rules M C) (broken : Bool) (k k' : ℕ) → Alike (at_end R.on_break broken k) (at_end R.on_break broken k')
unfolding Alike
like_ending {M} {C} R true k k' = like_broke R.on_break k k'
like_ending {M} {C} R false k k' = tt

-- a line that both have
like_fault : {M : Type 0} (o : Option Fault) (k k' : ℕ) (m : M) (left left' : List ℕ) (go go' : Outcome M) → (o ≡ None → Like go go') → Like (on_fault o k m left go) (on_fault o k' m left' go')
unfolding Like Alike
like_fault {M} None k k' m left left' go go' h = h refl
like_fault {M} (Some f) k k' m left left' go go' h = ((refl, refl), refl)

same-judged : {M C : Type 0} (room most : ℕ) (R : Rules M C) (broken : Bool) (k k' s s' : ℕ) (m : M) (l left left' : List ℕ) (go go' : Outcome M) →
    s + length l ≤ most → s' + length l ≤ most → (R.refused (R.next m l) ≡ None → Like go go') →
    Like (judged room most R broken k s m l left go) (judged room most R broken k' s' m l left' go')
unfolding Like Alike
same-judged {M} {C} room most R broken k k' s s' m l left left' go go' h h' i =
    let p : ltb most (s + length l) ≡ false = le-ltb most (s + length l) h in
    let p' : ltb most (s' + length l) ≡ false = le-ltb most (s' + length l) h' in
    elim (cases_Bool (long room l)) [
      | inl a ↦ rw (judged-long room most R broken k s m l left go a, judged-long room most R broken k' s' m l left' go' a) ((refl, refl), refl)
      | inr a ↦ elim (cases_Bool (is_utf8 l)) [
        | inl u ↦ elim (cases_Bool (lost broken l)) [
          | inl t ↦ rw (judged-cut room most R broken k s m l left go a p t, judged-cut room most R broken k' s' m l left' go' a p' t) (like_broke R.on_break k k', refl)
          | inr t ↦ rw (judged-kind room most R broken k s m l left go a p t u, judged-kind room most R broken k' s' m l left' go' a p' t u) (like_fault (R.refused (R.next m l)) (k + 1) (k' + 1) (R.next m l) left left' go go' i)
        ]
        | inr u ↦ elim (cases_Bool (lost broken l)) [
          | inl t ↦ rw (judged-cut room most R broken k s m l left go a p t, judged-cut room most R broken k' s' m l left' go' a p' t) (like_broke R.on_break k k', refl)
          | inr t ↦ rw (judged-text room most R broken k s m l left go a p t u, judged-text room most R broken k' s' m l left' go' a p' t u) (like_broke R.on_break k k', refl)
        ]
      ]
    ]

not_long : (room : ℕ) (l : List ℕ) → length l ≤ room → ended l ≡ true → long room l ≡ false
not_long room l h e = ap (λ (p : List ℕ). full room p) (take_all room l h) ∙ (elim (eqb (length l) room) as (λ t. cond t (not (ended l)) false ≡ false) [ true ↦ ap not e | false ↦ refl ])

stands : (broken : Bool) (l : List ℕ) → ended l ≡ true → lost broken l ≡ false
stands true l e = ap not e
stands false l e = refl

pub text_over : length (text_of []) ≡ 0
unfolding text_of
text_over = refl

pub text_cons : (l : List ℕ) (ls : List (List ℕ)) → length (text_of (l ∷ ls)) ≡ length l + length (text_of ls)
unfolding text_of
text_cons l ls = length-append l (text_of ls)

same-walk : {M C : Type 0} (R : Rules M C) (begun : M → Bool) (foreign : List ℕ → Bool) (most : ℕ) (broken : Bool) →
    ForeignIsAside R begun foreign → BeginsWithALine R begun →
    (k k' s s' : ℕ) (m : M) (b : Bool) {ls ls' : List (List ℕ)} → begun m ≡ b → R.refused m ≡ None → Edition foreign b ls ls' → s ≤ s' → s' + length (text_of ls') ≤ most →
    Like (walk 4096 most R broken k s m ls) (walk 4096 most R broken k' s' m ls')
unfolding walk Like
same-walk {M} {C} R begun foreign most broken aside starting k k' s s' m b g n (over c) h w = (like_ending R broken k k', refl)
same-walk {M} {C} R begun foreign most broken aside starting k k' s s' m b g n (keep c l ls ls' e) h w =
    let t = text_cons l ls' in
    same-judged 4096 most R broken k k' s s' m l (text_of ls) (text_of ls') _ _ (omega arith) (omega arith)
    (λ q. same-walk R begun foreign most broken aside starting (k + 1) (k' + 1) (s + length l) (s' + length l) (R.next m l) true (starting m l q) q e (omega arith) (omega arith))
same-walk {M} {C} R begun foreign most broken aside starting k k' s s' m b g n (more f ls ls' a e) h w =
    let t = text_cons f ls' in
    let z : judged 4096 most R broken k' s' m f (text_of ls') (walk 4096 most R broken (k' + 1) (s' + length f) (R.next m f) ls') ≡ walk 4096 most R broken (k' + 1) (s' + length f) m ls' =
    judged-kind 4096 most R broken k' s' m f (text_of ls') _ (not_long 4096 f a.short a.closed) (le-ltb most (s' + length f) (omega arith)) (stands broken f a.closed) a.text
    ∙ ap (λ (x : M). on_fault (R.refused x) (k' + 1) x (text_of ls') (walk 4096 most R broken (k' + 1) (s' + length f) x ls')) (aside m f g n a.strange)
    ∙ ap (λ (o : Option Fault). on_fault o (k' + 1) m (text_of ls') (walk 4096 most R broken (k' + 1) (s' + length f) m ls')) n in
    subst (λ (o : Outcome M). Like (walk 4096 most R broken k s m ls) o) (sym z)
    (same-walk R begun foreign most broken aside starting k (k' + 1) s (s' + length f) m true g n e (omega arith) (omega arith))

same_at : {C : Type 0} (k k' : ℕ) (r : Result C Fault) → Same (at_line k r) (at_line k' r)
same_at {C} k k' (Ok v) = refl
same_at {C} k k' (Err f) = (refl, refl)

same-closing : {M C : Type 0} (R : Rules M C) (v v' : Result ℕ Refusal) (m m' : M) → Alike v v' → m ≡ m' → Same (closing R v m) (closing R v' m')
unfolding Alike
same-closing {M} {C} R (Ok k) (Ok k') m m' a e = rw e (same_at k k' (R.closed m'))
same-closing {M} {C} R (Ok k) (Err g) m m' a e = absurd a
same-closing {M} {C} R (Err f) (Ok k') m m' a e = absurd a
same-closing {M} {C} R (Err f) (Err g) m m' a e = a

pub newer : {M C : Type 0} (R : Rules M C) (begun : M → Bool) (foreign : List ℕ → Bool) →
    ForeignIsAside R begun foreign → BeginsWithALine R begun →
    NewerReadsSame R begun foreign
unfolding reading course leaves Like
newer {M} {C} R begun foreign aside starting m t bytes' n e h =
    let k = same-walk R begun foreign 268435456 t.broken aside starting 0 0 0 0 m (begun m) refl n e (omega arith) (omega (arith, ap length (text_lines bytes'))) in
    same-closing R _ _ _ _ k.0 k.1
