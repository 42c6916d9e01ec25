-- What the faults of the slips' layer stand for. Assumes nothing.
use Rattle.ring.specs.declared.fault.Fault.{Fault}
use Rattle.ring.specs.declared.fault.Layer.TheVariants.{Slip}
use Rattle.ring.specs.Faults.{fault}
use Rattle.slip.specs.declared.fault.SlipFault.{SlipFault}
use Rattle.slip.specs.declared.fault.SlipFault.TheVariants.{FileLength, KindField, ClassField, SectionsField, BackField, AreaLength, ListLength, Range}

abbrev pub slip_fault : SlipFault → Fault
slip_fault (FileLength length) = fault 1 Slip length
slip_fault (KindField place) = fault 2 Slip place
slip_fault (ClassField place) = fault 2 Slip place
slip_fault (SectionsField place) = fault 2 Slip place
slip_fault (BackField place) = fault 2 Slip place
slip_fault AreaLength = fault 1 Slip 0
slip_fault ListLength = fault 1 Slip 0
slip_fault (Range place) = fault 3 Slip place
