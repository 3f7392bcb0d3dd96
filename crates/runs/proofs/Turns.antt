-- A turn of the loop over calls, and its end.
use Rattle.std.proofs.Common.{◌≡◌, ◌∙◌, ap, sym, ◌++◌, List, [], ◌∷◌, map, append_assoc, append-nil}
use Rattle.sources.specs.Texts.{Text}
use Rattle.runs.specs.declared.call.Call.{Call}
use Rattle.runs.specs.declared.call.Answer.{Answer}
use Rattle.runs.specs.Run.{RunState, served, answers}

one_more : (d d' : RunState) (out : List Answer) (a : Answer) (call : Call Text) (rest : List (Call Text)) → (a, d') ≡ served d call → (out ++ a ∷ []) ++ answers d' rest ≡ out ++ answers d (call ∷ rest)
unfolding answers
one_more d d' out a call rest e =
    append_assoc out (a ∷ []) (answers d' rest)
    ∙ ap (λ (v : Answer × RunState). out ++ v.0 ∷ answers v.1 rest) e

module _ {S : Type 0} (f : S → Call Text) where
  -- What was answered, and what is to be answered yet, stay the same together.
  pub turn : (d d' : RunState) (out out' : List Answer) (a : Answer) (call : S) (rest rest' : List S) (t : List Answer) → rest ≡ call ∷ rest' → out' ≡ out ++ a ∷ [] → (a, d') ≡ served d (f call) → out ++ answers d (map f rest) ≡ t → out' ++ answers d' (map f rest') ≡ t
  turn d d' out out' a call rest rest' t r o s h =
      ap (λ (v : List Answer). v ++ answers d' (map f rest')) o
      ∙ one_more d d' out a (f call) (map f rest') s
      ∙ ap (λ (v : List S). out ++ answers d (map f v)) (sym r)
      ∙ h

  pub done : (d : RunState) (out : List Answer) (rest : List S) (t : List Answer) → rest ≡ [] → out ++ answers d (map f rest) ≡ t → out ≡ t
  unfolding answers
  done d out rest t r h = sym (append-nil out) ∙ ap (λ (v : List S). out ++ answers d (map f v)) (sym r) ∙ h
