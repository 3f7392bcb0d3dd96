-- Newer editions of the texts leave all answers, line numbers aside.
use Rattle.std.proofs.Common.{◌≡◌, ◌∙◌, ap, sym, refl, subst, List, [], ◌∷◌, ◌++◌, map, Option, Some, None, Ok, Err, Result, ℤ, true, false}
use Rattle.sources.specs.declared.fault.Refusal.{Refusal}
use Rattle.sources.specs.declared.reason.Reason.{Reason}
use Rattle.sources.specs.declared.kind.Break.TheVariants.{Refuses, Ends}
use Rattle.sources.specs.Editions.{Same}
use Rattle.sources.specs.Lines.{reading}
use Rattle.sources.specs.Texts.{Text, text}
use Rattle.sources.proofs.Newer.{newer}
use Rattle.fields.specs.LastLines.{into}
use Rattle.fields.specs.Slotted as slotted
use Rattle.kinds.specs.declared.measure.Closed.{Closed}
use Rattle.kinds.specs.Measure as smaps
use Rattle.kinds.specs.MeasureLaws.{foreign_aside, begins_with_mapping}
use Rattle.kinds.specs.Measured.{measured}
use Rattle.kinds.specs.StatusText as status_text
use Rattle.kinds.specs.LimitsText as limits_text
use Rattle.status.specs.declared.record.Status.{Status}
use Rattle.status.specs.Line as status
use Rattle.status.specs.LineLaws as status_laws
use Rattle.status.specs.Record.{fill_slots, judged_slots, blank_status}
use Rattle.limits.specs.declared.record.Limits.{Limits}
use Rattle.limits.specs.Entries as limits
use Rattle.limits.specs.LimitsLaws as limits_laws
use Rattle.limits.specs.Record.{fill_limits, judged_limits, fresh_slots, blank_limits}
use Rattle.packing.specs.declared.place.Place.{Place}
use Rattle.packing.specs.Packed.{Packing}
use Rattle.packing.specs.Places.{with_noted, with_bounds, changed}
use Rattle.packing.specs.Calls.{placing, keeping, unknown_refusal, noted_of, noted_from, bounds_from, note_in, bounds_in}
use Rattle.runs.specs.declared.call.Call.{Call}
use Rattle.runs.specs.declared.call.Answer.{Answer}
use Rattle.runs.specs.declared.call.Answer.TheVariants.{Refused}
use Rattle.runs.specs.Run.{RunState, of_measure, kept, done_or_refused, served, answers}
use Rattle.runs.specs.Newer.{NewerText, Newer, same, measured as measured_newer, noted, bounded, Newers, without_line, unnumbered}

-- refusals that differ by their line
same-bare : (f g : Refusal) → (f.reason ≡ g.reason) × (f.field ≡ g.field) → without_line f ≡ without_line g
same-bare f g e =
    ap (λ (r : Reason). record { reason = r; line = 0; field = f.field }) e.0
    ∙ ap (λ n. record { reason = g.reason; line = 0; field = n }) e.1

same-self : {C : Type 0} (r : Result C Refusal) → Same r r
same-self {C} (Ok v) = refl
same-self {C} (Err f) = (refl, refl)

same-measure : (r s : Result Closed Refusal) → Same r s → (unnumbered (of_measure r) ≡ unnumbered (of_measure s)) × (kept r ≡ kept s)
same-measure (Ok c) (Ok d) e = (ap (λ (x : Closed). of_measure (Ok x)) e, ap Some e)
same-measure (Ok c) (Err g) e = absurd e
same-measure (Err f) (Ok d) e = absurd e
same-measure (Err f) (Err g) e = (ap Refused (same-bare f g e), refl)

same-kept : {X : Type 0} (change : X → Place → Place) (pid : ℤ) (l : Packing) (v : Option Refusal) (r s : Result X Refusal) (t u left left' : Text) → Same r s →
    (unnumbered (done_or_refused (keeping v change pid (r, left) t l).0) ≡ unnumbered (done_or_refused (keeping v change pid (s, left') u l).0)) × ((keeping v change pid (r, left) t l).1 ≡ (keeping v change pid (s, left') u l).1)
same-kept {X} change pid l (Some f) r s t u left left' e = (refl, refl)
same-kept {X} change pid l None (Ok x) (Ok y) t u left left' e = (refl, ap (λ (z : X). placing (changed pid (change z) l.places) l) e)
same-kept {X} change pid l None (Ok x) (Err g) t u left left' e = absurd e
same-kept {X} change pid l None (Err f) (Ok y) t u left left' e = absurd e
same-kept {X} change pid l None (Err f) (Err g) t u left left' e = (ap Refused (same-bare f g e), refl)

same-note : (pid : ℤ) (r s : Result Status Refusal) (left left' : Text) → Same r s → Same (noted_from pid (into blank_status (r, left))).0 (noted_from pid (into blank_status (s, left'))).0
same-note pid (Ok v) (Ok w) left left' e = subst (λ (x : Status). Same (noted_of pid v) (noted_of pid x)) e (same-self (noted_of pid v))
same-note pid (Ok v) (Err g) left left' e = absurd e
same-note pid (Err f) (Ok w) left left' e = absurd e
same-note pid (Err f) (Err g) left left' e = e

same-bounds : (r s : Result Limits Refusal) (left left' : Text) → Same r s → Same (bounds_from (into blank_limits (r, left))).0 (bounds_from (into blank_limits (s, left'))).0
same-bounds (Ok v) (Ok w) left left' e = ap (λ (x : Limits). record { address_space = x.max_address_space.soft_limit; open_files = x.max_open_files.soft_limit }) e
same-bounds (Ok v) (Err g) left left' e = absurd e
same-bounds (Err f) (Ok w) left left' e = absurd e
same-bounds (Err f) (Err g) left left' e = e

newer_measure : (t u : Text) → NewerText smaps.is_foreign false t u → Same (measured t) (measured u)
newer_measure t u n =
    subst (λ b. Same (measured t) (measured (text u.bytes b))) (sym n.ending)
    (newer smaps.measure_rules smaps.has_begun smaps.is_foreign foreign_aside begins_with_mapping smaps.fresh t u.bytes refl n.edition n.fits)

newer_note : (pid : ℤ) (t u : Text) → NewerText status.is_foreign true t u → Same (note_in pid t).0 (note_in pid u).0
unfolding note_in
newer_note pid t u n =
    same-note pid (reading status_text.status_rules status_text.fresh t).0 (reading status_text.status_rules status_text.fresh u).0 _ _
    (subst (λ b. Same (reading status_text.status_rules status_text.fresh t).0 (reading status_text.status_rules status_text.fresh (text u.bytes b)).0) (sym n.ending)
    (newer status_text.status_rules slotted.has_begun status.is_foreign (slotted.foreign_aside status.entry_of fill_slots judged_slots Refuses status.is_foreign status_laws.foreign_empty) (slotted.begins_with_any status.entry_of fill_slots judged_slots Refuses) status_text.fresh t u.bytes refl n.edition n.fits))

newer_bounds : (t u : Text) → NewerText limits.is_foreign true t u → Same (bounds_in t).0 (bounds_in u).0
unfolding bounds_in
newer_bounds t u n =
    same-bounds (reading limits_text.limits_rules (Ok fresh_slots) t).0 (reading limits_text.limits_rules (Ok fresh_slots) u).0 _ _
    (subst (λ b. Same (reading limits_text.limits_rules (Ok fresh_slots) t).0 (reading limits_text.limits_rules (Ok fresh_slots) (text u.bytes b)).0) (sym n.ending)
    (newer limits_text.limits_rules slotted.has_begun limits.is_foreign (slotted.foreign_aside limits.entry_of fill_limits judged_limits Ends limits.is_foreign limits_laws.foreign_empty) (slotted.begins_with_any limits.entry_of fill_limits judged_limits Ends) (Ok fresh_slots) t u.bytes refl n.edition n.fits))

-- One call answers the same and leaves the same.
newer_served : (d : RunState) (c e : Call Text) → Newer c e → (unnumbered (served d c).0 ≡ unnumbered (served d e).0) × ((served d c).1 ≡ (served d e).1)
newer_served d c e (same x) = (refl, refl)
newer_served d c e (measured_newer t u n) =
    let k = same-measure (measured t) (measured u) (newer_measure t u n) in
    (k.0, ap (λ (o : Option Closed). (d.0, d.1 ++ o ∷ [])) k.1)
newer_served d c e (noted pid t u n) =
    let k = same-kept with_noted pid d.0 (unknown_refusal pid d.0) (note_in pid t).0 (note_in pid u).0 t u (note_in pid t).1 (note_in pid u).1 (newer_note pid t u n) in
    (k.0, ap (λ (l : Packing). (l, d.1)) k.1)
newer_served d c e (bounded pid t u n) =
    let k = same-kept with_bounds pid d.0 (unknown_refusal pid d.0) (bounds_in t).0 (bounds_in u).0 t u (bounds_in t).1 (bounds_in u).1 (newer_bounds t u n) in
    (k.0, ap (λ (l : Packing). (l, d.1)) k.1)

pub twins : (d : RunState) (cs ds : List (Call Text)) → Newers cs ds → map unnumbered (answers d cs) ≡ map unnumbered (answers d ds)
unfolding answers
twins d [] [] n = refl
twins d [] (e ∷ ds) n = absurd n
twins d (c ∷ cs) [] n = absurd n
twins d (c ∷ cs) (e ∷ ds) n =
    let k = newer_served d c e n.0 in
    ap (λ (a : Answer). a ∷ map unnumbered (answers (served d c).1 cs)) k.0
    ∙ ap (λ (x : RunState). unnumbered (served d e).0 ∷ map unnumbered (answers x cs)) k.1
    ∙ ap (λ (as' : List Answer). unnumbered (served d e).0 ∷ as') (twins (served d e).1 cs ds n.1)
