use Rattle.std.proofs.Common.{◌∙◌, ap, Option, Some, ℕ, Bool, true, false, refl, ◌≡◌}
use Rattle.std.specs.Prelude.{if◌then◌else◌}
use Rattle.std.specs.Str.{bytes_eq}
use Rattle.std.specs.Map.{lookup}
use Rattle.lp_fixity.proofs.Lookups.{lookup_put}
use Rattle.lp_infer.specs.Levels.{level_in, level_at}
use Rattle.lp_infer.proofs.scope.Scope.set_level.Goals as goal

level_put : (t : Bool) (level : Option ℕ) (o : Option (Option ℕ)) → level_at (if t then Some level else o) ≡ (if t then level else level_at o)
level_put true level o = refl
level_put false level o = refl

pub returns-clause-level : goal.returns-clause-level
unfolding level_in
returns-clause-level c = λ other.
    ap (λ es. level_at (lookup (λ k. bytes_eq other k.items) es)) c.in_ok-insert.ensures.entries ∙
    ap level_at (lookup_put (λ k. k.items) c.in_ok-key.key c.args.level other c.args.self.now.levels.entries) ∙
    level_put (bytes_eq other c.in_ok-key.key.items) c.args.level (lookup (λ k. bytes_eq other k.items) c.args.self.now.levels.entries) ∙
    ap (λ l. if bytes_eq other l then c.args.level else level_in c.args.self.now other) c.in_ok-key.ensures.items
