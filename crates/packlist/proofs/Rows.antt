-- A turn of the loop over lines and their texts, and its end.
use Rattle.std.proofs.Common.{◌≡◌, ◌∙◌, ap, sym, ◌++◌, List, [], ◌∷◌, map, append_assoc, append-nil, ◌⊎◌, inl, inr, refl}
use Rattle.std.proofs.lemmas.List.{map-append}
use Rattle.sources.specs.Texts.{Text}
use Rattle.runs.specs.declared.call.Call.{Call}
use Rattle.runs.specs.declared.call.Call.TheVariants.{Used}
use Rattle.packlist.specs.Files.{calls_of}

module _ {S L B : Type 0} (f : S → Call Text) (call : L → B → Call Text) where
  two_more : (out : List S) (c u : S) (l : L) (b : B) (ls : List L) (bs : List B) → f c ≡ call l b → f u ≡ Used → map f ((out ++ c ∷ []) ++ u ∷ []) ++ calls_of call ls bs ≡ map f out ++ calls_of call (l ∷ ls) (b ∷ bs)
  unfolding calls_of
  two_more out c u l b ls bs e h =
      ap (λ v. v ++ calls_of call ls bs) (ap (map f) (append_assoc out (c ∷ []) (u ∷ [])) ∙ map-append f out (c ∷ u ∷ []))
      ∙ append_assoc (map f out) (f c ∷ f u ∷ []) (calls_of call ls bs)
      ∙ ap (λ v. map f out ++ v ∷ f u ∷ calls_of call ls bs) e
      ∙ ap (λ v. map f out ++ call l b ∷ v ∷ calls_of call ls bs) h

  -- The calls made, and those to be made yet, stay the same together.
  pub turn : (out out' : List S) (c u : S) (l : L) (b : B) (ls ls' : List L) (bs bs' : List B) (t : List (Call Text)) → ls ≡ l ∷ ls' → bs ≡ b ∷ bs' → out' ≡ (out ++ c ∷ []) ++ u ∷ [] → f c ≡ call l b → f u ≡ Used → map f out ++ calls_of call ls bs ≡ t → map f out' ++ calls_of call ls' bs' ≡ t
  turn out out' c u l b ls ls' bs bs' t p q o e h i =
      ap (λ v. map f v ++ calls_of call ls' bs') o
      ∙ two_more out c u l b ls' bs' e h
      ∙ ap (λ v. map f out ++ calls_of call v (b ∷ bs')) (sym p)
      ∙ ap (λ v. map f out ++ calls_of call ls v) (sym q)
      ∙ i

  no_texts : (ls : List L) → calls_of call ls [] ≡ []
  unfolding calls_of
  no_texts [] = refl
  no_texts (l ∷ ls) = refl

  no_more : (ls : List L) (bs : List B) → (ls ≡ []) ⊎ (bs ≡ []) → calls_of call ls bs ≡ []
  unfolding calls_of
  no_more ls bs (inl p) = ap (λ v. calls_of call v bs) p
  no_more ls bs (inr q) = ap (λ v. calls_of call ls v) q ∙ no_texts ls

  pub done : (out : List S) (ls : List L) (bs : List B) (t : List (Call Text)) → (ls ≡ []) ⊎ (bs ≡ []) → map f out ++ calls_of call ls bs ≡ t → map f out ≡ t
  done out ls bs t h i = sym (append-nil (map f out)) ∙ ap (λ v. map f out ++ v) (sym (no_more ls bs h)) ∙ i
