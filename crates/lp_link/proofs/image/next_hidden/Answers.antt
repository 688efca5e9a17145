use Rattle.std.proofs.Common.{◌∙◌, ap}
use Rattle.std.specs.Prelude.{if◌then◌else◌, Some}
use Rattle.std.specs.Str.{bytes_eq}
use Rattle.std.specs.Map.{lookup}
use Rattle.lp_fixity.proofs.Lookups.{lookup_put}
use Rattle.lp_link.specs.inner.Named.{count_in, or_none}
use Rattle.lp_link.proofs.NamedRows.{put_count}
use Rattle.lp_link.proofs.image.next_hidden.Goals as goal

pub returns-clause-counted : goal.returns-clause-counted
unfolding count_in
returns-clause-counted c = λ other.
    ap (λ es. or_none (lookup (λ k. bytes_eq other k.items) es)) c.in_ok-insert.ensures.entries
    ∙ ap or_none (lookup_put (λ k. k.items) c.in_ok-key.key c.saturating_add-next.result other c.args.counts.now.entries)
    ∙ ap (λ l. or_none (if bytes_eq other l then Some c.saturating_add-next.result else lookup (λ k. bytes_eq other k.items) c.args.counts.now.entries)) c.in_ok-key.ensures.items
    ∙ put_count (bytes_eq other c.args.name.now) c.saturating_add-next.result (lookup (λ k. bytes_eq other k.items) c.args.counts.now.entries)
