-- What the faults of keys and forms stand for. Assumes nothing.
use Rattle.ring.specs.declared.fault.Fault.{Fault}
use Rattle.ring.specs.declared.fault.Layer.TheVariants.{Key, Form}
use Rattle.ring.specs.Faults.{fault}
use Rattle.slip.specs.Refusals.{slip_fault}
use Rattle.slip.specs.declared.fault.SlipFault.{SlipFault}
use Rattle.key.specs.declared.fault.FormFault.{FormFault}
use Rattle.key.specs.declared.fault.FormFault.TheVariants.{Slip as FormSlip, Scratch as FormScratch, Adjoint}
use Rattle.key.specs.declared.fault.KeyFault.{KeyFault}
use Rattle.key.specs.declared.fault.KeyFault.TheVariants.{Slip, Scratch, EvenF, EvenG, Determinant}

-- a slip's fault arrives whole
abbrev pub of_slip : SlipFault → KeyFault
of_slip e = Slip e

abbrev pub key_fault : KeyFault → Fault
key_fault (Slip e) = slip_fault e
key_fault Scratch = fault 1 Key 0
key_fault EvenF = fault 4 Key 0
key_fault EvenG = fault 4 Key 1
key_fault (Determinant power) = fault 5 Key power

abbrev pub of_form_slip : SlipFault → FormFault
of_form_slip e = FormSlip e

abbrev pub form_fault : FormFault → Fault
form_fault (FormSlip e) = slip_fault e
form_fault FormScratch = fault 1 Form 0
form_fault (Adjoint power) = fault 6 Form power
