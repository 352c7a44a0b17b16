-- What a call that takes memory returns, beside what a reader gives.
use Rattle.std.specs.Prelude.{Err, None, Ok, Option, Result, Some, ◌≡◌}
use Rattle.form_script.specs.declared.fault.LineFault.TheVariants as faults
use Rattle.form_script.specs.declared.fault.LineFault.{LineFault}

-- nothing is read, or there was no memory
abbrev pub Fails : {Y : Type 0} → LineFault → Option Y → Type 0
Fails faults.Syntax read = read ≡ None
Fails faults.Memory read = Unit {0}

-- What it returned, seen by view, is what reading gives, unless there was no memory.
abbrev pub Gives : {X Y : Type 0} → (X → Y) → Result X LineFault → Option Y → Type 0
Gives view (Ok x) read = read ≡ Some (view x)
Gives view (Err fault) read = Fails fault read
