use Rattle.line_fields.proofs.Numbers.{map-insert_new}
use Rattle.line_fields.proofs.names.add.Goals as goal

pub returns-clause-added : goal.returns-clause-added
returns-clause-added c =
    map-insert_new (λ name. name.items) c.args.names.now.keys c.insert.new.self.keys c.in_ok-name.name c.args.name.now
    c.in_ok-insert.ensures.keys c.in_ok-name.ensures.items c.requires
