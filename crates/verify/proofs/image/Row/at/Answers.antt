use Rattle.verify.proofs.Images.{entry_fits, entry_is}
use Rattle.verify.proofs.image.Row.at.Goals as goal

pub overflow_add-result : goal.overflow_add-result
overflow_add-result c =
    entry_fits c.args.self.now c.args.k c.requires.within c.coefficient.result c.coefficient-2.result (record { sfits = c.coefficient.type_inv }) (record { sfits = c.coefficient-2.type_inv }) c.coefficient.ensures c.coefficient-2.ensures

pub returns : goal.returns
returns c =
    entry_is c.args.self.now c.args.k c.requires.within c.coefficient.result c.coefficient-2.result (record { sfits = c.coefficient.type_inv }) (record { sfits = c.coefficient-2.type_inv }) c.coefficient.ensures c.coefficient-2.ensures
