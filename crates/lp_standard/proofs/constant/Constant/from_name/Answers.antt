use Rattle.std.proofs.Common.{◌≡◌, sym, ap, ◌∙◌, List, ℕ, ◌++◌}
use Rattle.std.specs.Option.{option_or}
use Rattle.std.specs.Str.{bytes_eq}
use Rattle.std.proofs.lemmas.List.Folds.{find-append}
use Rattle.lp_standard.specs.Constants.{name, connectives, relations, operations, named_in, named}
use Rattle.lp_standard.proofs.constant.Constant.from_name.Goals as goal

-- the parts of the language, one after the other
parts : (n : List ℕ) → named n ≡ option_or (option_or (named_in connectives n) (named_in relations n)) (named_in operations n)
parts n =
    find-append (λ c. bytes_eq n (name c)) (connectives ++ relations) operations ∙
    ap (λ o. option_or o (named_in operations n)) (find-append (λ c. bytes_eq n (name c)) connectives relations)

pub returns : goal.returns
returns c =
    c.or-2.ensures ∙ ap (λ o. option_or o c.operation.result) (c.or.ensures ∙ ap (λ o. option_or o c.relation.result) c.connective.ensures ∙ ap (option_or (named_in connectives c.args.name.now)) c.relation.ensures) ∙
    ap (option_or (option_or (named_in connectives c.args.name.now) (named_in relations c.args.name.now))) c.operation.ensures ∙ sym (parts c.args.name.now)
