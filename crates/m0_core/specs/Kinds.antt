-- The instructions that a core treats by themselves (ARMv6-M Architecture Reference Manual, A6.7).
use Rattle.std.specs.Prelude.{Bool, true, false}
use Rattle.rp_base.specs.declared.op.Op.{Op}
use Rattle.rp_base.specs.declared.op.Op.TheVariants.{Bkpt, Sev, Wfe, Wfi, Svc, Udf, Undefined}

abbrev pub is_breakpoint : Op → Bool
is_breakpoint (Bkpt i) = true
is_breakpoint _ = false

-- SEV
abbrev pub is_signal : Op → Bool
is_signal Sev = true
is_signal _ = false

-- WFE
abbrev pub awaits_event : Op → Bool
awaits_event Wfe = true
awaits_event _ = false

-- WFI
abbrev pub awaits_interrupt : Op → Bool
awaits_interrupt Wfi = true
awaits_interrupt _ = false

-- SVC
abbrev pub is_call : Op → Bool
is_call (Svc i) = true
is_call _ = false

-- UDF, or no instruction
abbrev pub is_undefined : Op → Bool
is_undefined (Udf i) = true
is_undefined Undefined = true
is_undefined _ = false
