-- A row of a form, held beside v. Assumes nothing.
use Rattle.std.specs.Prelude.{List, ℤ}
use Rattle.verify.specs.Images.{row_image, shown}
use Rattle.verify.specs.declared.image.Row.{Row}

-- p·v0 + q·v1
abbrev pub u_of : Row → List ℤ
u_of row = row_image (shown row.p.now) row.q.now row.v.v0.now row.v.v1.now
