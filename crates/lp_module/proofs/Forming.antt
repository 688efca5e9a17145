-- From what is wrong with the parts of a formula to its first fault.
use Rattle.std.proofs.Common.{◌≡◌, ℕ, zero, suc, ◌+◌, ◌-◌, ◌<◌, ◌≤◌, List, [], ◌∷◌, ◌++◌, length, map, take, get_or, Bool, true, false, true≢false, Option, refl, sym, ap, subst, ◌∙◌, arith, inl, inr}
use Rattle.std.specs.Prelude.{◌⊎◌, ◌&&◌, nat_lt, if◌then◌else◌, option_map, slice_get}
use Rattle.std.proofs.lemmas.Bool.{cases_lt}
use Rattle.std.proofs.lemmas.Bool.Decides.{nat_tests}
use Rattle.std.proofs.lemmas.List.{map_more, take_all}
use Rattle.lp_base.specs.declared.place.Spot.{Spot}
use Rattle.lp_base.specs.declared.limits.TheConstants.{MAX_ARGUMENTS}
use Rattle.lp_base.specs.declared.limit.Limit.TheVariants as limit
use Rattle.lp_calculus.specs.Term.{Term}
use Rattle.lp_calculus.specs.Typing.{Scheme}
use Rattle.lp_standard.specs.Constants.{is_declared}
use Rattle.lp_standard.specs.Schemes.{standard_schemes, entry}
use Rattle.lp_term.specs.Nodes.{Nodes, type_tree}
use Rattle.lp_model.specs.Flatten.{ends_in_o, heads_clauses}
use Rattle.lp_sig.specs.declared.entries.ConstantEntry.{ConstantEntry}
use Rattle.lp_sig.specs.declared.signature.Signature.{Signature}
use Rattle.lp_infer.specs.Texts.{entry_scheme}
use Rattle.lp_module.specs.Clauses.{IsShortForm, IsWithin, IsFormed}
use Rattle.lp_module.specs.Form.{HasNoPart, is_deep, is_wide, is_in_term, is_other, whole}
use Rattle.lp_module.specs.Refusals.{IsFormFault, IsShort}
use Rattle.lp_module.specs.Schemes.{any_schemes, declared_schemes}
use Rattle.lp_module.specs.declared.fault.ModuleFault.TheVariants as fault
use Rattle.lp_module.specs.declared.heads.Heads.TheVariants.{Any}
use Rattle.lp_module.specs.declared.judge.Verdict.{Verdict}
use Rattle.lp_module.specs.inner.Judging.{AreHeads, IsVerdict}

none : (x y : Bool) → (x ≡ true → y ≡ true) → y ≡ false → x ≡ false
none false y f e = refl
none true y f e = absurd (true≢false (sym (f refl) ∙ e))

module _ (d : ℕ → Option Scheme) (goal : Bool) (n : ℕ) (formula form : Term) (v : Verdict) (is : IsVerdict d (whole goal form) v) (short : IsShortForm formula form) (first : Spot) where
  pub deep_fault : v.deep ≡ true → IsFormFault d goal n formula first (fault.Limit limit.Nesting)
  deep_fault e = (form, short, is.found.deep e)

  module _ (deep : v.deep ≡ false) where
    shallow : HasNoPart is_deep (whole goal form)
    shallow p i = none (is_deep p) v.deep (is.all deep p i).deep deep

    pub wide_fault : v.wide ≡ true → IsFormFault d goal n formula first (fault.Limit limit.Arguments)
    wide_fault e = (form, short, shallow, inl (is.found.wide e))

    module _ (wide : v.wide ≡ false) where
      pub variables_fault : MAX_ARGUMENTS < n → IsFormFault d goal n formula first (fault.Limit limit.Arguments)
      variables_fault h = (form, short, shallow, inr h)

      module _ (few : n ≤ MAX_ARGUMENTS) where
        within : IsWithin goal n formula form
        within = record { short = short; type_variables = few; shallow = shallow; narrow = λ p i. none (is_wide p) v.wide (is.all deep p i).wide wide }

        pub in_term_fault : v.in_term ≡ true → IsFormFault d goal n formula first (fault.InTerm first)
        in_term_fault e = (refl, (form, within, is.found.in_term e))

        module _ (in_term : v.in_term ≡ false) where
          positive : HasNoPart is_in_term (whole goal form)
          positive p i = none (is_in_term p) v.in_term (is.all deep p i).in_term in_term

          pub other_fault : v.other ≡ true → IsFormFault d goal n formula first (fault.NotClause first)
          other_fault e = (refl, (form, within, positive, is.found.other e))

          pub no_fault : v.other ≡ false → IsFormed d goal n formula
          no_fault other = record { form = form; within = within; positive = positive; formed = λ p i. none (is_other d p) v.other (is.all deep p i).other other }

-- a formula with a form has one within the limits
pub short_of : (d : ℕ → Option Scheme) (goal : Bool) (n : ℕ) (formula : Term) → IsFormed d goal n formula → IsShort formula
short_of d goal n formula f = (f.form, f.within.short.normal, f.within.short.few)

-- of a query's constants nothing is known
and_true : (x : Bool) → x ≡ (x && true)
and_true true = refl
and_true false = refl

pub any_heads : AreHeads any_schemes Any
any_heads c = and_true (is_declared c)

-- the constants of a signature whose declared types end in `o`
pub ends_more : (b c : Nodes) (es xs : List ConstantEntry) (i : ℕ) (e : ConstantEntry) (t : Bool) (old new : List Bool) → new ≡ old ++ t ∷ [] → xs ≡ es → i < length xs → e ≡ get_or xs i e → c ≡ b → t ≡ ends_in_o (type_tree c e.scheme.0) →
    old ≡ map (λ e. ends_in_o (type_tree b e.scheme.0)) (take i es) → new ≡ map (λ e. ends_in_o (type_tree b e.scheme.0)) (take (i + 1) es)
ends_more b c es xs i e t old new pushed same h at bank is was =
    let l : i < length es = subst (λ l. i < length l) same h in
    let a : e ≡ get_or es i e = at ∙ ap (λ l. get_or l i e) same in
    pushed ∙ ap (λ l. l ++ t ∷ []) was ∙
    ap (λ x. map (λ e. ends_in_o (type_tree b e.scheme.0)) (take i es) ++ x ∷ []) (is ∙ ap (λ d. ends_in_o (type_tree d e.scheme.0)) bank ∙ ap (λ e. ends_in_o (type_tree b e.scheme.0)) a) ∙
    sym (map_more (λ e. ends_in_o (type_tree b e.scheme.0)) es i e l)

end_at : (b : Nodes) (es : List ConstantEntry) (i : ℕ) → get_or (map (λ e. ends_in_o (type_tree b e.scheme.0)) es) i false ≡ heads_clauses (option_map (entry_scheme b) (slice_get es i))
end_at b [] i = refl
end_at b (e ∷ es) zero = refl
end_at b (e ∷ es) (suc i) = end_at b es i

pub ends_are : (sig : Signature) (n : ℕ) (all : List Bool) → length sig.constants.items ≤ n → all ≡ map (λ e. ends_in_o (type_tree sig.bank e.scheme.0)) (take n sig.constants.items) → (c : ℕ) → (is_declared c && get_or all (c - 32) false) ≡ (is_declared c && heads_clauses (declared_schemes sig c))
ends_are sig n all h is c = by (cases_lt c 32)
  where
    by : (c < 32) ⊎ (32 ≤ c) → (is_declared c && get_or all (c - 32) false) ≡ (is_declared c && heads_clauses (declared_schemes sig c))
    by (inl l) =
        let z : is_declared c ≡ false = grind (arith, nat_tests, l) in
        ap (λ t. t && get_or all (c - 32) false) z ∙ sym (ap (λ t. t && heads_clauses (declared_schemes sig c)) z)
    by (inr l) =
        let z : nat_lt c 32 ≡ false = grind (arith, nat_tests, l) in
        ap (λ x. is_declared c && x)
        (ap (λ xs. get_or xs (c - 32) false) (is ∙ ap (map (λ e. ends_in_o (type_tree sig.bank e.scheme.0))) (take_all n sig.constants.items h)) ∙ end_at sig.bank sig.constants.items (c - 32) ∙
        sym (ap (λ t. heads_clauses (if t then entry standard_schemes c else option_map (entry_scheme sig.bank) (slice_get sig.constants.items (c - 32)))) z))
