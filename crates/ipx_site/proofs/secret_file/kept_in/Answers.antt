use Rattle.std.proofs.Common.{◌∙◌, ℕ, List, ap, subst, sym, take}
use Rattle.ipx_site.specs.Secrets.{IsSecretText}
use Rattle.ipx_site.proofs.secret_file.kept_in.Goals as goal

pub returns-in_default : goal.returns-in_default
returns-in_default c secret is =
    c.secret_in.ensures.none c.in_default.is secret
    (subst (λ (line : List ℕ). IsSecretText line secret) (sym (c.split_at.ensures.front ∙ ap (λ (n : ℕ). take n c.args.text.now) c.min.ensures)) is)
