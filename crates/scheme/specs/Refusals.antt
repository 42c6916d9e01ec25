-- What the faults of verification and of sessions stand for. Assumes nothing.
use Rattle.ring.specs.declared.fault.Fault.{Fault}
use Rattle.ring.specs.declared.fault.Layer.TheVariants.{Session, Check}
use Rattle.ring.specs.Faults.{fault}
use Rattle.scheme.specs.declared.fault.CheckFault.{CheckFault}
use Rattle.scheme.specs.declared.fault.CheckFault.TheVariants.{Length, Range, Bound, Sign}
use Rattle.scheme.specs.declared.fault.SessionFault.{SessionFault}
use Rattle.scheme.specs.declared.fault.SessionFault.TheVariants.{Length as SessionLength, Coset, Bound as SessionBound, Zero, Standing, Order, Full, Logged}

abbrev pub check_fault : CheckFault → Fault
check_fault Length = fault 1 Check 0
check_fault Range = fault 3 Check 0
check_fault Bound = fault 8 Check 0
check_fault Sign = fault 9 Check 0

abbrev pub session_fault : SessionFault → Fault
session_fault SessionLength = fault 1 Session 0
session_fault Coset = fault 7 Session 0
session_fault SessionBound = fault 8 Session 0
session_fault Zero = fault 9 Session 0
session_fault Standing = fault 20 Session 0
session_fault Order = fault 21 Session 0
session_fault Full = fault 22 Session 0
session_fault Logged = fault 23 Session 0
