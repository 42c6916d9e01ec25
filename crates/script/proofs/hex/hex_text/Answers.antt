use Rattle.script.proofs.Returns.{text_back}
use Rattle.script.proofs.hex.hex_text.Goals as goal

pub returns-clause-back : goal.returns-clause-back
returns-clause-back c = text_back c.args.bytes.now (λ i. (c.type_inv.bytes i).fits)
