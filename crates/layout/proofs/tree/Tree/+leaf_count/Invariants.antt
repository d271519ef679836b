use Rattle.layout.proofs.tree.Tree.TheLaws.{the_size}
use Rattle.layout.proofs.tree.Tree.+leaf_count.Given as goal

abbrev pub decreases-leaf_count : goal.decreases-leaf_count
decreases-leaf_count l = the_size l.self.now
