use Rattle.std.proofs.Common.{ℕ, sym, ◌∙◌, subst}
use Rattle.sheet.specs.declared.words.Answer.TheVariants.{Opened}
use Rattle.show.specs.Asking.{Called}
use Rattle.show.proofs.Chained.{chained}
use Rattle.show.proofs.serving.serve_lines.Goals as goal

pub returns : goal.returns
returns g c =
    let s = c.serve.ensures.served in
    let k = c.count_calls-count.ensures in
    record {
      turned = s.turned;
      added = s.added;
      stands = s.stands;
      lawful = s.lawful;
      amounts = s.amounts;
      distances = s.distances;
      called = λ w.
          let n = c.new-script.ensures in
          let d = chained g.K.Kind.text g.K.Kind.has g.met.K.Kind.named c.args.input.now _ c.new-script.result Opened s.turned s.then k.0 s.asked n.lines
          (subst (λ (p : ℕ). Called g.K.Kind.text g.K.Kind.has c.args.input.now p k.0) (sym n.place) k.1) (s.all w ∙ k.2) in
          (d.0, subst (λ (p : ℕ). Called g.K.Kind.text g.K.Kind.has c.args.input.now p d.0) n.place d.1, d.2);
    }
