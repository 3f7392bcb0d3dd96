use Rattle.std.proofs.Common.{◌≡◌, ℕ, ◌/◌, ◌%◌, Bool, false, ◌&&◌, eqb, List, [], ◌∷◌, ◌++◌, length, sym, ap, ◌∙◌, arith, rules, tests}
use Rattle.std.proofs.lemmas.Iterator.{YieldsList-from_slice}
use Rattle.std.proofs.lemmas.Iterator.Search.{all_from_yields_List}
use Rattle.std.proofs.Math.Bool.{and-false}
use Rattle.std.specs.List.{list_all}
use Rattle.std.specs.Simd.{first_chunks}
use Rattle.sources.specs.Records.{going, last, records_of, recorded, well_made}
use Rattle.sources.proofs.Made.{well_made_end}
use Rattle.sources.proofs.recording.records_in.Goals.{After-is_empty, else-is_empty-via-then-is_empty+then-all+else-last, else-is_empty-via-then-is_empty+else-all, else-is_empty-via-else-is_empty}
use Rattle.sources.proofs.recording.records_in.Goals as goal

-- bytes without a record
none_in : (bytes : List ℕ) → length bytes / 64 ≡ 0 → recorded bytes ≡ false
unfolding records_of
none_in bytes h = ap (λ (k : ℕ). (eqb (length bytes % 64) 0) && well_made (first_chunks 64 k bytes)) h ∙ and-false (eqb (length bytes % 64) 0)

-- whether bytes are a recording, told by what is behind their records and by these
recorded_by : (bytes : List ℕ) (rs : List (List ℕ)) (r : List ℕ) (n : ℕ) → first_chunks 64 (length bytes / 64) bytes ≡ rs ++ (r ∷ []) → n ≡ length bytes % 64 → recorded bytes ≡ eqb n 0 && (list_all going rs && last r)
unfolding records_of
recorded_by bytes rs r n e h = ap (λ (k : ℕ). eqb k 0 && well_made (first_chunks 64 (length bytes / 64) bytes)) (sym h) ∙ ap (λ (l : List (List ℕ)). eqb n 0 && well_made l) e ∙ ap (λ (b : Bool). eqb n 0 && b) (well_made_end rs r)

pub returns-in_err-end : goal.returns-in_err-end
returns-in_err-end c = rw c.from_residual.ensures (none_in c.args.bytes.now (omega (arith, c.in_err-end.ensures.cases)))

-- whether the bytes are a recording, by what stands for the three tests
told : (c : After-is_empty) → recorded c.args.bytes.now ≡ c.is_empty.result && (list_all going c.in_ok-end.before.now && last c.in_ok-end.end.now)
told c =
    recorded_by c.args.bytes.now c.in_ok-end.before.now c.in_ok-end.end.now (length c.as_chunks.result.1.now) (sym c.as_chunks.ensures.front ∙ c.in_ok-end.ensures.cases.0) c.as_chunks.ensures.back_len
    ∙ ap (λ (b : Bool). b && (list_all going c.in_ok-end.before.now && last c.in_ok-end.end.now)) (sym c.is_empty.ensures)

pub returns-then-last : goal.returns-then-last
unfolding records_of
returns-then-last c =
    let all : c.all.result ≡ list_all going c.in_ok-end.before.now = all_from_yields_List going _ _ c.all.result c.all.ensures.ran (YieldsList-from_slice c.in_ok-end.before.now cc) (λ x b q k. search (rules, tests)) in
    (told (goal.at.returns-then-last c).After-is_empty ∙ rw (c.if-is_empty.true, sym all, c.if-all.true, sym c.last.ensures, c.if-last.true), c.as_chunks.ensures.front)

pub returns-else-is_empty : goal.returns-else-is_empty
returns-else-is_empty c =
    told (goal.at.returns-else-is_empty c).After-is_empty
    ∙ elim c.else-is_empty.branch [
      | else-is_empty-via-then-is_empty+then-all+else-last w ↦
          let all : w.all.result ≡ list_all going c.in_ok-end.before.now = all_from_yields_List going _ _ w.all.result w.all.ensures.ran (YieldsList-from_slice c.in_ok-end.before.now cc) (λ x b q k. search (rules, tests)) in
          rw (w.if-is_empty.true, sym all, w.if-all.true, sym w.last.ensures, w.if-last.false)
      | else-is_empty-via-then-is_empty+else-all w ↦
          let all : w.all.result ≡ list_all going c.in_ok-end.before.now = all_from_yields_List going _ _ w.all.result w.all.ensures.ran (YieldsList-from_slice c.in_ok-end.before.now cc) (λ x b q k. search (rules, tests)) in
          rw (w.if-is_empty.true, sym all, w.if-all.false)
      | else-is_empty-via-else-is_empty w ↦ rw w.if-is_empty.false
    ]
