use Rattle.std.proofs.Common.{◌∙◌, sym, ap}
use Rattle.std.specs.Prelude.{if◌then◌else◌, Some}
use Rattle.std.specs.Str.{bytes_eq}
use Rattle.std.specs.Map.{lookup}
use Rattle.lp_lemmas.proofs.Results.{on_err_always}
use Rattle.lp_fixity.proofs.Lookups.{lookup_put}
use Rattle.lp_places.specs.Places.{place_of}
use Rattle.lp_places.proofs.Finding.{first_again, first_new}
use Rattle.lp_places.proofs.places.Places.add.Goals as goal

pub returns-then-is_some-clause-added : goal.returns-then-is_some-clause-added
returns-then-is_some-clause-added c = λ names at h other.
    h other ∙ first_again c.args.name.now other names c.of.result (sym c.is_some.ensures ∙ c.if-is_some.true) (c.of.ensures ∙ h c.args.name.now)

pub returns-in_err-insert-clause-kept : goal.returns-in_err-insert-clause-kept
unfolding place_of
returns-in_err-insert-clause-kept c = on_err_always c.from_residual-in_err-insert.result (λ names h name. ap (lookup (λ k. bytes_eq name k.items)) c.in_err-insert.ensures.err ∙ h name)

pub returns-clause-added : goal.returns-clause-added
unfolding place_of
returns-clause-added c = λ names at h other.
    ap (lookup (λ k. bytes_eq other k.items)) c.in_ok-insert.ensures.entries ∙
    lookup_put (λ k. k.items) c.in_ok-key.key c.args.place other c.args.self.now.places.entries ∙
    ap (λ l. if bytes_eq other l then Some c.args.place else place_of c.args.self.now other) c.in_ok-key.ensures.items ∙
    first_new c.args.name.now other names c.args.place (place_of c.args.self.now other) c.of.result at (h other) (sym c.is_some.ensures ∙ c.if-is_some.false) (c.of.ensures ∙ h c.args.name.now)
