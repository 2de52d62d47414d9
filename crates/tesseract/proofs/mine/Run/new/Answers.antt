use Rattle.std.proofs.Common.{refl}
use Rattle.tesseract.proofs.Between.{Stands-first}
use Rattle.tesseract.proofs.mine.Run.new.Goals as goal

pub returns : goal.returns
returns c = λ terms.
    Stands-first terms c.args.plan c.in_ok-new.field-0 (record { window = c.new-2.result; shards = c.in_ok-make_shards.field-0; standing = 0 })
    c.requires c.in_ok-new.ensures c.new-2.ensures c.in_ok-make_shards.ensures.empty refl
