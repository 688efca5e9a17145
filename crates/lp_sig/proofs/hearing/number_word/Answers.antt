use Rattle.std.proofs.Common.{◌∙◌, ◌+◌, length, sym, ap}
use Rattle.std.specs.Prelude.{if◌then◌else◌, is_some}
use Rattle.std.specs.Str.{bytes_eq}
use Rattle.std.specs.Map.{lookup}
use Rattle.lp_fixity.proofs.Lookups.{lookup_put}
use Rattle.lp_sig.proofs.Sights.{numbers_again, numbers_more}
use Rattle.lp_sig.proofs.hearing.number_word.Goals as goal

pub returns-then-contains_key : goal.returns-then-contains_key
returns-then-contains_key c = λ before h. numbers_again c.args.numbers.now before h c.args.name.now (sym c.contains_key.ensures ∙ c.if-contains_key.true)

pub returns : goal.returns
returns c = λ before h.
    numbers_more c.args.numbers.now before h c.args.name.now c.in_ok-key.key c.len-next.result c.insert.new.self
    (sym c.contains_key.ensures ∙ c.if-contains_key.false) c.in_ok-key.ensures.items c.len-next.ensures.len
    (λ name. ap (lookup (λ k. bytes_eq name k.items)) c.in_ok-insert.ensures.entries ∙ lookup_put (λ k. k.items) c.in_ok-key.key c.len-next.result name c.args.numbers.now.entries)
    (c.in_ok-insert.ensures.len ∙ ap (λ t. length c.args.numbers.now.entries + (if t then 0 else 1))
    (ap is_some c.in_ok-insert.ensures.old ∙ ap (λ w. is_some (lookup (λ k. bytes_eq w k.items) c.args.numbers.now.entries)) c.in_ok-key.ensures.items ∙
    sym c.contains_key.ensures ∙ c.if-contains_key.false))
