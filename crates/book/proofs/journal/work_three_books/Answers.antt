use Rattle.book.proofs.Promise.{joint_kept, same_kept}
use Rattle.book.proofs.journal.work_three_books.Goals as goal

pub returns-clause-joint : goal.returns-clause-joint
returns-clause-joint g c = joint_kept (g.met.N.NettingRule.nets c.args.setup.now.rule.now) c.work_through.ensures c.work_through-2.ensures c.work_through-3.ensures

pub returns-clause-same : goal.returns-clause-same
returns-clause-same g c = same_kept (g.met.N.NettingRule.nets c.args.setup.now.rule.now) c.work_through.ensures c.work_through-2.ensures
