use Rattle.std.proofs.Common.{IsTrue, ap, subst, sym, ◌∙◌}
use Rattle.b3tree.specs.declared.values.Hash.{Hash}
use Rattle.holders.specs.declared.form.Form.{Form}
use Rattle.bao_windows.specs.Available.{IsFitting}
use Rattle.bao_windows.proofs.wanted.Wanted.is_fitting.Goals as goal

pub returns-in-Bare : goal.returns-in-Bare
returns-in-Bare c =
    let wanted = c.args.self.now in
    subst (λ (form : Form). (IsTrue c.is_of.result → IsFitting wanted form) × (IsFitting wanted form → IsTrue c.is_of.result)) (sym c.in-Bare.is) (
      λ yes. let of = c.is_of.ensures.0 yes in (sym c.mode.ensures ∙ of.1, sym c.root.ensures ∙ ap (λ (h : Hash). h.0) of.0),
      λ of. c.is_of.ensures.1 (λ i. record { 0 = (c.root.ensures ∙ of.1) i }, c.mode.ensures ∙ of.0),
    )
