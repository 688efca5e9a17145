use Rattle.std.proofs.Common.{◌∙◌, ap, sym, subst, map}
use Rattle.std.specs.Prelude.{nat_eq, unwrap_or}
use Rattle.std.specs.List.{AllZip}
use Rattle.indexmap.specs.IndexMap.{get}
use Rattle.lp_sig.specs.Rows.{kind_row, constant_row, abbreviation_row, fixity_row}
use Rattle.lp_build.specs.Queried.{IsKindOf, IsConstantOf, kind_numbers}
use Rattle.lp_build.proofs.Placing.{types_seen, none_of_none}
use Rattle.lp_build.proofs.queries.query_signature.Goals as goal

pub returns : goal.returns
returns c =
    let own = c.args.own.now in
    record {
      kinds_are = subst (AllZip (IsKindOf c.args.kinds.now) (map kind_row own.kinds.items))
          (sym (c.in_ok-signature.ensures.kinds ∙ ap (map kind_row) c.as_slice-kind_list.ensures.value))
          (c.in_ok-own_kinds.ensures c.args.kinds.now c.in_ok-kind_places.ensures);
      constants_are = subst (AllZip (IsConstantOf c.args.constants.now) (map constant_row own.constants.items))
          (sym (c.in_ok-signature.ensures.constants ∙ ap (map constant_row) c.as_slice-constant_list.ensures.value))
          (c.in_ok-own_constants.ensures c.args.constants.now c.in_ok-constant_places.ensures);
      types_are = types_seen own.bank c.in_ok-signature.signature.bank c.in_ok-types.types c.bank.result.now
          (λ k. unwrap_or (get nat_eq c.in_ok-numbers.numbers k) k) (kind_numbers c.args.kinds.now (map kind_row own.kinds.items))
          c.in_ok-signature.ensures.types c.bank.ensures
          (c.in_ok-numbers.ensures c.args.kinds.now c.in_ok-kind_places.ensures) c.in_ok-types.ensures.trees;
      no_abbreviations = none_of_none abbreviation_row c.in_ok-signature.signature.abbreviations.items c.in_ok-signature.ensures.abbreviations;
      fixities_are = c.in_ok-signature.ensures.fixities ∙ ap (map fixity_row) c.as_slice-fixity_list.ensures.value ∙ c.in_ok-own_fixities.ensures;
    }
