-- From std's relation between a text and the number read from it to the defined reading.
use Rattle.std.proofs.Common.{◌≡◌, ℕ, zero, suc, ◌^◌, ◌≤◌, Bool, true, false, cond, ltb, leb, List, [], ◌∷◌, length, ℤ, pos, neg_ℤ, Ok, Err, Decides, ◌∙◌, Result, refl, ap, arith, pow_pos, SFits, le-leb, leb-true}
use mir.Syntax.{Width}
use mir.Val.{hbits}
use Rattle.std.specs.Result.{OkIff, MatchResult, IsErrAnd}
use Rattle.std.proofs.lemmas.Result.{err_from_is_err_and}
use Rattle.std.specs.Str.Parse.{AllDigits, IsNumeral, without_leading_plus, without_leading_sign, starts_with_minus, ParsesUnsigned, ParsesSigned}
use Rattle.std.specs.Char.{digit_value}
use Rattle.std.proofs.lemmas.Bool.Decides.{Decides-and, Decides-ltb}
use Rattle.sources.specs.declared.fault.NumberFault.{NumberFault}
use Rattle.sources.specs.declared.fault.NumberFault.TheVariants.{Unreadable}
use Rattle.sources.specs.declared.number.Radix.{Radix}
use Rattle.sources.specs.Number.{base_of, all_under, numeral, fitting, unsigned, signed}

under_decides : (b : ℕ) (ds : List ℕ) → Decides (all_under b ds) (AllDigits b ds)
under_decides b [] = (λ _. tt, λ _. refl)
under_decides b (c ∷ cs) = Decides-and _ _ (Decides-ltb (digit_value c) b) (under_decides b cs)

numeral-decides : (b : ℕ) (ds : List ℕ) → Decides (numeral b ds) (IsNumeral b ds)
numeral-decides b ds = Decides-and _ _ (Decides-ltb 0 (length ds)) (under_decides b ds)

-- std's answer, with its error as a fault
abbrev pub Converted : {T E : Type 0} → Result T E → Result T NumberFault → Type 0
Converted {T} {E} r s = MatchResult r (λ x. s ≡ Ok x) (λ e. IsErrAnd s (λ f. f ≡ Unreadable))

converted : {T E : Type 0} (r : Result T E) (s : Result T NumberFault) (P : Type 0) (v : T) (q : Bool) → Converted r s → OkIff r P v → Decides q P → s ≡ fitting q v
converted {T} (Ok x) s P v q c h d = c ∙ rw (d.1 h.0) (ap (λ (y : T). Ok y) h.1)
converted {T} (Err e) s P v true c h d = absurd (h (d.0 refl))
converted {T} (Err e) s P v false c h d = let p = err_from_is_err_and s c in p.1 ∙ ap (λ (f : NumberFault). Err f) p.2

pub reads_unsigned : {E : Type 0} (k : ℕ) (x : Radix) (bs : List ℕ) (r : Result ℕ E) (s : Result ℕ NumberFault) → Converted r s → ParsesUnsigned k (base_of x) bs r → s ≡ unsigned k x bs
reads_unsigned k x bs r s c h = converted r s _ _ _ c h (Decides-and _ _ (numeral-decides (base_of x) (without_leading_plus bs)) (Decides-ltb _ (2 ^ k)))

negative_fits : (w : Width) (n : ℕ) → n ≤ 2 ^ hbits w → SFits w (neg_ℤ (pos n))
negative_fits w zero h = record { sfits = pow_pos (hbits w) }
negative_fits w (suc n) h = record { sfits = h }

fits_negative : (w : Width) (n : ℕ) → SFits w (neg_ℤ (pos n)) → n ≤ 2 ^ hbits w
fits_negative w zero h = omega arith
fits_negative w (suc n) h = h.sfits

within-decides : (w : Width) (m : Bool) (n : ℕ) → Decides (cond m (leb n (2 ^ hbits w)) (ltb n (2 ^ hbits w))) (SFits w (cond m (neg_ℤ (pos n)) (pos n)))
within-decides w true n = (λ e. negative_fits w n (leb-true _ _ e), λ f. le-leb _ _ (fits_negative w n f))
within-decides w false n = (λ e. record { sfits = (Decides-ltb n (2 ^ hbits w)).0 e }, λ f. (Decides-ltb n (2 ^ hbits w)).1 f.sfits)

pub reads_signed : {E : Type 0} (w : Width) (x : Radix) (bs : List ℕ) (r : Result ℤ E) (s : Result ℤ NumberFault) → Converted r s → ParsesSigned w (base_of x) bs r → s ≡ signed (hbits w) x bs
reads_signed w x bs r s c h = converted r s _ _ _ c h (Decides-and _ _ (numeral-decides (base_of x) (without_leading_sign bs)) (within-decides w (starts_with_minus bs) _))
