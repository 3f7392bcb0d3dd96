-- The rules of a measure keep the laws of a kind. (The proofs stand here since an implementation of a trait can cite specs/ alone.)
use Rattle.std.specs.Prelude.{◌≡◌, ℕ, true, Some, None, Ok, Err, Result, refl}
use Rattle.sources.specs.declared.fault.Fault.{Fault}
use Rattle.sources.specs.Rules.{RefusalStays, ForeignIsAside, BeginsWithALine}
use Rattle.kinds.specs.declared.sort.Sort.{Sort}
use Rattle.kinds.specs.declared.sort.Sort.TheVariants.{Mapping, Attribute}
use Rattle.kinds.specs.declared.measure.Tally.{Tally}
use Rattle.kinds.specs.declared.measure.State.{State}
use Rattle.kinds.specs.declared.measure.State.TheVariants.{NoMapping, InMapping, Refused}
use Rattle.kinds.specs.Measure.{opened, headed, next, fault_of, end_of, max_total, measure_rules, has_begun, aside, is_foreign}
use Rattle.kinds.specs.Sorts.{sort_of}

stays : (cap : ℕ) (m : State) (f : Fault) → fault_of m ≡ Some f → ((s : Sort) → fault_of (next cap m s) ≡ Some f) × (end_of cap m ≡ Err f)
stays cap NoMapping f e = cc
stays cap (InMapping t) f e = cc
stays cap (Refused g) f e = (λ s. e, cc)

pub refusal_stays : RefusalStays measure_rules
refusal_stays m f e = let h = stays max_total m f e in (λ line. h.0 (sort_of line), h.1)

aside-keeps : (cap : ℕ) (m : State) (s : Sort) → has_begun m ≡ true → fault_of m ≡ None → aside s ≡ true → next cap m s ≡ m
aside-keeps cap NoMapping s b r f = cc
aside-keeps cap (Refused k) s b r f = cc
aside-keeps cap (InMapping t) (Mapping h) b r f = cc
aside-keeps cap (InMapping t) (Attribute (Ok None)) b r f = refl
aside-keeps cap (InMapping t) (Attribute (Ok (Some s))) b r f = cc
aside-keeps cap (InMapping t) (Attribute (Err k)) b r f = cc

pub foreign_aside : ForeignIsAside measure_rules has_begun is_foreign
foreign_aside m line b r f = aside-keeps max_total m (sort_of line) b r f

-- a line that is not refused leads into a mapping
headed_begun : (o : Result Tally Fault) (head : Result (Unit {0}) Fault) → fault_of (headed o head) ≡ None → has_begun (headed o head) ≡ true
headed_begun (Err f) head r = cc
headed_begun (Ok t) (Err f) r = cc
headed_begun (Ok t) (Ok u) r = refl

begun_after : (cap : ℕ) (m : State) (s : Sort) → fault_of (next cap m s) ≡ None → has_begun (next cap m s) ≡ true
begun_after cap (Refused f) s r = cc
begun_after cap NoMapping (Mapping (Ok u)) r = refl
begun_after cap NoMapping (Mapping (Err f)) r = cc
begun_after cap NoMapping (Attribute a) r = cc
begun_after cap (InMapping t) (Mapping head) r = headed_begun (opened cap t) head r
begun_after cap (InMapping t) (Attribute (Ok None)) r = refl
begun_after cap (InMapping t) (Attribute (Ok (Some s))) r = refl
begun_after cap (InMapping t) (Attribute (Err f)) r = cc

pub begins_with_mapping : BeginsWithALine measure_rules has_begun
begins_with_mapping m line r = begun_after max_total m (sort_of line) r
