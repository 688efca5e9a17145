use Rattle.std.proofs.Common.{◌∙◌, ap, sym, ◌++◌, [], ◌∷◌}
use Rattle.std.specs.Option.{option_to_list}
use Rattle.std.proofs.lemmas.List.{append-nil}
use Rattle.lp_build.specs.Sights.{accum_sig_at, accumulate_at}
use Rattle.lp_build.proofs.Seeing.{first_two}
use Rattle.lp_build.proofs.links.Links.first.Goals as goal

pub returns-in-None : goal.returns-in-None
returns-in-None c = λ files links.
    first_two _ _ _ _ _ _ _ c.new-work.ensures.items c.in_ok-extend_from_slice.ensures.items c.in_ok-extend_from_slice-2.ensures.items
    (c.named.ensures files links) (c.accumulated.ensures files links) ∙
    sym (append-nil (accum_sig_at files c.args.file ++ accumulate_at files c.args.file)) ∙
    ap (λ o. accum_sig_at files c.args.file ++ accumulate_at files c.args.file ++ option_to_list o) (sym c.in-None.is ∙ c.own.ensures files links)

pub returns-in_ok-push-in-Some : goal.returns-in_ok-push-in-Some
returns-in_ok-push-in-Some c = λ files links.
    c.in_ok-push-in-Some.ensures.items ∙
    ap (λ l. l ++ c.in-Some.own ∷ []) (first_two _ _ _ _ _ _ _ c.new-work.ensures.items c.in_ok-extend_from_slice.ensures.items
    c.in_ok-extend_from_slice-2.ensures.items (c.named.ensures files links) (c.accumulated.ensures files links)) ∙
    ap (λ o. accum_sig_at files c.args.file ++ accumulate_at files c.args.file ++ option_to_list o) (sym c.in-Some.is ∙ c.own.ensures files links)
