-- Threads, signals and capabilities: a slot for each, and the order in which they are judged. What each line holds is after proc(5).
use Rattle.std.specs.Prelude.{List, Ok, Result}
use Rattle.sources.specs.declared.fault.Fault.{Fault}
use Rattle.sources.specs.declared.number.Radix.TheVariants.{Decimal, Hexadecimal}
use Rattle.sources.specs.Faults.{and_then}
use Rattle.fields.specs.Slots.{Entry, last_of, needed, optional}
use Rattle.fields.specs.Values.{figure_of, pair_of}
use Rattle.status.specs.declared.signals.SignalsSlots.{SignalsSlots}
use Rattle.status.specs.declared.record.Status.{Status}

-- After entries, with the last first: each slot by how its value is read and by the number of its field.
abbrev pub fill_signals : List Entry → SignalsSlots → SignalsSlots
fill_signals es s = record {
  threads = last_of (figure_of 64 Decimal) 39 es s.threads;
  sigq = last_of pair_of 40 es s.sigq;
  sigpnd = last_of (figure_of 64 Hexadecimal) 41 es s.sigpnd;
  shdpnd = last_of (figure_of 64 Hexadecimal) 42 es s.shdpnd;
  sigblk = last_of (figure_of 64 Hexadecimal) 43 es s.sigblk;
  sigign = last_of (figure_of 64 Hexadecimal) 44 es s.sigign;
  sigcgt = last_of (figure_of 64 Hexadecimal) 45 es s.sigcgt;
  capinh = last_of (figure_of 64 Hexadecimal) 46 es s.capinh;
  capprm = last_of (figure_of 64 Hexadecimal) 47 es s.capprm;
  capeff = last_of (figure_of 64 Hexadecimal) 48 es s.capeff;
  capbnd = last_of (figure_of 64 Hexadecimal) 49 es s.capbnd;
  capamb = last_of (figure_of 64 Hexadecimal) 50 es s.capamb;
}

-- The record so far with these fields, judged in order.
abbrev pub judged_signals : SignalsSlots → Status → Result Status Fault
judged_signals s status =
    and_then (needed 39 s.threads) (λ threads.
    and_then (needed 40 s.sigq) (λ sigq.
    and_then (needed 41 s.sigpnd) (λ sigpnd.
    and_then (needed 42 s.shdpnd) (λ shdpnd.
    and_then (needed 43 s.sigblk) (λ sigblk.
    and_then (needed 44 s.sigign) (λ sigign.
    and_then (needed 45 s.sigcgt) (λ sigcgt.
    and_then (needed 46 s.capinh) (λ capinh.
    and_then (needed 47 s.capprm) (λ capprm.
    and_then (needed 48 s.capeff) (λ capeff.
    and_then (optional 49 s.capbnd) (λ capbnd.
    and_then (optional 50 s.capamb) (λ capamb.
    Ok (record status { threads = threads; sigq = sigq; sigpnd = sigpnd; shdpnd = shdpnd; sigblk = sigblk; sigign = sigign; sigcgt = sigcgt; capinh = capinh; capprm = capprm; capeff = capeff; capbnd = capbnd; capamb = capamb })))))))))))))
