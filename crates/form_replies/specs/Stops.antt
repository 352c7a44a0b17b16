-- Why what is said stops.
use Rattle.std.specs.Prelude.{Bool, true, false}
use Rattle.form_pending.specs.declared.fault.SayFault.{SayFault}
use Rattle.form_pending.specs.declared.fault.SayFault.TheVariants as says
use Rattle.form_replies.specs.declared.stop.Stop.{Stop}
use Rattle.form_replies.specs.declared.stop.Stop.TheVariants as stops

-- the stop of a text that was not said
abbrev pub by_saying : SayFault → Stop
by_saying says.Sink = stops.WriteFault
by_saying says.Memory = stops.Memory

-- a stop that saying a text may have
abbrev pub is_writing : Stop → Bool
is_writing stops.WriteFault = true
is_writing stops.Memory = true
is_writing stop = false

-- a stop that reading files may have
abbrev pub is_reading : Stop → Bool
is_reading stops.FileFault = true
is_reading stops.Memory = true
is_reading stop = false
