use Rattle.layout.proofs.tree.Tree.TheLaws.{the_size}
use Rattle.layout.proofs.tree.Tree.+list_items.Given as goal

abbrev pub decreases-list_items : goal.decreases-list_items
decreases-list_items l = the_size l.self.now
