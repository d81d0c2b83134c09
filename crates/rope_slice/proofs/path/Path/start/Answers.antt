use Rattle.std.proofs.Common.{sym, ap, ◌∙◌}
use Rattle.std.specs.List.{concat}
use Rattle.std.specs.Str.{chars}
use Rattle.rope_text.specs.Text.{byte_len}
use Rattle.rope_slice.proofs.PathLaws.{start_descent}
use Rattle.rope_slice.proofs.path.Path.start.Goals as goal

pub returns : goal.returns
returns c =
    let s = c.self.inside in
    sym (ap (λ p. byte_len (concat p.before)) (sym c.self.view_is)
    ∙ start_descent s.root.now s.nodes.now s.at (chars s.leaf.now) s.start c.self.invariant.descent)
