-- The states of a process, by the letter that stands for each.
use Rattle.std.specs.Prelude.{ℕ, cond, Some, None, Option, ◌==◌}
use Rattle.status.specs.declared.state.ProcState.{ProcState}
use Rattle.status.specs.declared.state.ProcState.TheVariants.{Running, Sleeping, Waiting, Zombie, Stopped, Tracing, Dead, Wakekill, Waking, Parked, Idle}

-- R S D Z T t X x K W P I, of which X and x are one state.
abbrev pub state_of : ℕ → Option ProcState
state_of c =
    cond (c == 82) (Some Running)
    (cond (c == 83) (Some Sleeping)
    (cond (c == 68) (Some Waiting)
    (cond (c == 90) (Some Zombie)
    (cond (c == 84) (Some Stopped)
    (cond (c == 116) (Some Tracing)
    (cond (c == 88) (Some Dead)
    (cond (c == 120) (Some Dead)
    (cond (c == 75) (Some Wakekill)
    (cond (c == 87) (Some Waking)
    (cond (c == 80) (Some Parked)
    (cond (c == 73) (Some Idle)
    None)))))))))))
