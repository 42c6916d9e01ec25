-- How layers and refusals print, as bytes. Assumes nothing.
use Rattle.std.specs.Prelude.{ℕ, List, ◌++◌, codes, decimal}
use Rattle.ring.specs.declared.fault.Fault.{Fault}
use Rattle.ring.specs.declared.fault.Layer.{Layer}
use Rattle.ring.specs.declared.fault.Layer.TheVariants.{Ring, Slip, Key, Form, Session, Check}

abbrev pub layer_name : Layer → List ℕ
layer_name Ring = codes "ring"
layer_name Slip = codes "slip"
layer_name Key = codes "key"
layer_name Form = codes "form"
layer_name Session = codes "session"
layer_name Check = codes "check"

-- NUMBER LAYER PLACE
abbrev pub fault_text : Fault → List ℕ
fault_text e = decimal e.number ++ (codes " " ++ (layer_name e.layer ++ (codes " " ++ decimal e.place)))
