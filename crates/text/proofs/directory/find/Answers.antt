use Rattle.std.proofs.Common.{◌≡◌, ◌≢◌, map, refl, subst, rules, tests}
use Rattle.std.proofs.lemmas.Iterator.{IsFirst-from_position, YieldsList-from_slice}
use Rattle.std.proofs.lemmas.Bool.Decides.{not_from_Decides}
use Rattle.text.specs.Directory.{Finds}
use Rattle.text.proofs.Entries.{found}
use Rattle.text.proofs.directory.find.Goals as goal

pub returns : goal.returns
returns g c =
    let text = g.K.Kind.text in
    let t = text c.args.name.now in
    subst (Finds (map text c.args.names.now) t) (search rules)
    (found text c.args.names.now t c.position.result
    (IsFirst-from_position _ _ _ (λ x. text x ≡ t) (λ x. text x ≢ t) c.position.ensures.ran (YieldsList-from_slice c.args.names.now cc)
    (λ x q k. search (rules, tests)) (λ x q k. search (rules, tests))))
