use Rattle.std.proofs.lemmas.Nat.{xor_lt}
use Rattle.gf_tables.proofs.TableFieldField.add.Goals as goal

pub returns-clause-element : goal.returns-clause-element
returns-clause-element c = xor_lt c.args.self.now.bits c.args.x c.args.y c.requires.left c.requires.right
