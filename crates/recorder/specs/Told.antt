-- How the refusals of a slice are told.
use Rattle.serial_sched.specs.declared.fault.SliceFault.{SliceFault}
use Rattle.serial_sched.specs.declared.fault.SliceFault.TheVariants as slice_faults
use Rattle.recorder.specs.declared.fault.RecorderFault.{RecorderFault}
use Rattle.recorder.specs.declared.fault.RecorderFault.TheVariants as faults

abbrev pub slice_told : SliceFault → RecorderFault
slice_told slice_faults.Memory = faults.Memory
slice_told slice_faults.NotRunnable = faults.Refused slice_faults.NotRunnable
slice_told slice_faults.BadQuantum = faults.Refused slice_faults.BadQuantum
slice_told slice_faults.Ended = faults.Refused slice_faults.Ended
slice_told slice_faults.Waiting = faults.Refused slice_faults.Waiting
slice_told slice_faults.NotTimed = faults.Refused slice_faults.NotTimed
