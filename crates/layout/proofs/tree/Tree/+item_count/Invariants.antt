use Rattle.layout.proofs.tree.Tree.TheLaws.{the_size}
use Rattle.layout.proofs.tree.Tree.+item_count.Given as goal

abbrev pub decreases-item_count : goal.decreases-item_count
decreases-item_count l = the_size l.self.now
