use Rattle.std.proofs.Common.{arith, rules}
use Rattle.slip.proofs.Trailers.{written_passes}
use Rattle.slip.proofs.writer.write_trailer.Goals as goal

pub returns : goal.returns
returns c =
    record {
      answer = search rules;
      kept = tt;
      passes = λ before h. written_passes c.args.kind c.args.class before c.args.area.now c.put_trailer.new.area (omega arith) c.put_trailer.ensures h;
    }
