-- The records that the code of a clause names, by their numbers.
use Rattle.std.proofs.Common.{◌≡◌, ◌∙◌, ◌<◌, ℕ, ◌+◌, ◌-◌, ◌^◌, List, [], ◌∷◌, ◌++◌, append_assoc, length, Bool, true, false, Some, ap, refl, sym, subst, arith}
use Rattle.std.specs.Prelude.{nat_le, if◌then◌else◌, is_none, slice_get}
use Rattle.std.proofs.lemmas.List.{append-nil}
use Rattle.std.proofs.lemmas.Bool.{leb-true}
use Rattle.indexmap.specs.IndexMap.{IndexMap}
use Rattle.lp_calculus.specs.Types.{Ty}
use Rattle.lp_model.specs.Flat.{Goals}
use Rattle.lp_code.specs.declared.instruction.Instr.{Instr}
use Rattle.lp_code.specs.declared.instruction.Instr.TheVariants as on
use Rattle.lp_code.specs.States.{Home}
use Rattle.lp_code.specs.Rules.{names_in}
use Rattle.lp_gen.specs.declared.environment.Variable.{Variable}
use Rattle.lp_gen.specs.declared.plan.Part.{Part}
use Rattle.lp_gen.specs.declared.plan.Origin.{Origin}
use Rattle.lp_gen.specs.declared.tables.Tables.{Tables}
use Rattle.lp_gen.specs.Steps.{Around, constant_function}
use Rattle.lp_gen.specs.inner.Listing.{around_of}
use Rattle.lp_gen.specs.inner.TermLaw.{AreSet}
use Rattle.lp_gen.specs.inner.Owned.{AreStarted}
use Rattle.lp_gen.specs.inner.Written.{CodeOwns}
use Rattle.lp_gen.specs.inner.Bodies.{IsShort}
use Rattle.lp_gen.specs.inner.GoalCode.{numbers, GoalsCode}
use Rattle.lp_gen.specs.inner.OpenGoals.{goals_steps, plain_goals, EndsGoals}
use Rattle.lp_gen.specs.inner.BodyCode.{Suppositions, AreAllSet, HoldStarts, AssumedBy, steps_of, AreNext, next_all}
use Rattle.lp_gen.specs.inner.Recorded.{FrontWritten, RecordWritten, own_count}
use Rattle.lp_gen.proofs.OwnMadeBy.{started_on}
use Rattle.lp_gen.proofs.CodeOwned.{owns_then}
use Rattle.lp_gen.proofs.BodyCoded.{body_coded}
use Rattle.lp_gen.proofs.CodeMapped.{names_both}
use Rattle.lp_gen.proofs.OwnPlaces.{index_types_count}
use Rattle.lp_gen.proofs.RecordRuns.{head_owns, head_more_types, own_all_set}
use Rattle.lp_gen.proofs.RecordNames.{goals_named, no_names_in, news_names}
use Rattle.lp_gen.proofs.RecordCode as record_of
use Rattle.lp_gen.proofs.WrittenTypes.{types_code}

types_name : (p : Bool) (r n : ℕ) → names_in (types_code p r n) ≡ []
types_name true r n = news_names r n
types_name false r n = refl

module _ {S : Type 0} (t : Tables) (part : Part) (captured : IndexMap ℕ Variable S) (xs' : List (IndexMap ℕ Variable S)) (o1 : Origin) (h : Home)
    (w : RecordWritten t (constant_function t.bank.now t.constants.now) part captured [] xs' h.self) (o : part.origin ≡ o1) (set : AreAllSet t.bank.now captured)
    (cl : Suppositions) (q f : ℕ) (gs : Goals) (kept : HoldStarts t.bank.now xs' f cl)
    (steps : steps_of t.bank.now cl part.steps.items ≡ goals_steps gs) (ends : EndsGoals gs) (next : AreNext t q f part.steps.items)
    (few : part.base + own_count o1 + length part.steps.items < 2 ^ 64 - 1) where
  abbrev K : ℕ → List Ty → Ty
  K = constant_function t.bank.now t.constants.now

  abbrev around : Around
  around = record_of.around t part captured xs' o1 h w o

  pub base_is : around.base ≡ part.base
  base_is = ap (λ (a : Around). a.base) ((record_of.front_of t part captured xs' o1 h w o).entered.around t.bank.now) ∙ w.base

  started : AreStarted around
  started l v lt at = go (nat_le around.base l) refl at
    where
      go : (b : Bool) → nat_le around.base l ≡ b → (if b then slice_get around.own (l - around.base) else around.captured l) ≡ Some v → v.is_set ≡ true
      go true e at = let z = leb-true around.base l e in absurd (omega (arith, z, lt))
      go false e at = set l v (sym (ap (λ (a : Around). a.captured l) ((record_of.front_of t part captured xs' o1 h w o).entered.around t.bank.now) ∙ w.starts_are t.bank.now l) ∙ at)

  abbrev front_of : FrontWritten t.bank.now K w.typed w.fronted w.begun_env w.fronted_env o1 h.self.head
  front_of = record_of.front_of t part captured xs' o1 h w o

  pub own_length : length around.own ≡ own_count o1
  own_length = (record_of.own_stands t part captured xs' o1 h w o).count ∙ index_types_count t.bank.now o1

  owned : CodeOwns around (around_of t.bank.now front_of.matched_env) (record_of.hm t part captured xs' o1 h w o).more
  owned = head_owns K front_of.begun front_of.matched around (around_of t.bank.now front_of.matched_env) h.self.head (record_of.hd t part captured xs' o1 h w o) front_of.head started

  started_2 : AreStarted (around_of t.bank.now front_of.matched_env)
  started_2 = started_on around (around_of t.bank.now front_of.matched_env) owned.same owned.stays started

  short_2 : IsShort (around_of t.bank.now front_of.matched_env)
  short_2 = let i = owned.same.base in let j = owned.same.count in let b = base_is in let n = own_length in omega (arith, i, j, b, n, few)

  pub all_set : AreSet (around_of t.bank.now w.fronted_env)
  all_set = own_all_set front_of.matched w.fronted (around_of t.bank.now front_of.matched_env) (around_of t.bank.now w.fronted_env) front_of.made short_2 started_2

  pub all_owned : CodeOwns around (around_of t.bank.now w.fronted_env) ((record_of.hm t part captured xs' o1 h w o).more ++ front_of.made.some.made.more)
  all_owned = owns_then around (around_of t.bank.now front_of.matched_env) (around_of t.bank.now w.fronted_env) (record_of.hm t part captured xs' o1 h w o).more front_of.made.some.made.more
      (λ s. head_owns K front_of.begun front_of.matched around (around_of t.bank.now front_of.matched_env) h.self.head
      (record_of.hd t part captured xs' o1 h w o) front_of.head s) front_of.made.some.made.owns started

  pub coded : (last : List Instr)
      × GoalsCode (AssumedBy t cl) K t.type_vars (around_of t.bank.now w.fronted_env) w.body.begun.types w.body.said.types w.body.begun.registers
      w.body.said.registers q (next_all t q part.steps.items) (plain_goals gs) last
      × (w.body.said.code.items ≡ w.body.begun.code.items ++ last)
  coded =
      body_coded t K w.body.begun w.body.said w.fronted_env w.ended_env [] xs' part.steps.items cl q f gs w.body.written.0 kept steps ends
      (subst (λ n. AreNext t q n part.steps.items) (let y : length {A = IndexMap ℕ Variable S} [] ≡ 0 = refl in let z : f ≡ f + length
      {A = IndexMap ℕ Variable S} [] = omega (arith, y) in z) next) all_set
      (let i = all_owned.same.base in let j = all_owned.same.count in let e = base_is in let n = own_length in omega (arith, i, j, e, n, few))

  none_named : (xs ys : List Instr) → names_in xs ≡ [] → names_in (xs ++ ys) ≡ names_in ys
  none_named xs ys e = names_both xs ys ∙ ap (λ l. l ++ names_in ys) e

  pub names : (n : ℕ) × (names_in h.self.code.items ≡ numbers q n) × (next_all t q part.steps.items ≡ q + n)
  names =
      let front = record_of.front t part captured xs' o1 h w o in
      let hm = record_of.hm t part captured xs' o1 h w o in
      let named = goals_named (AssumedBy t cl) K t.type_vars (around_of t.bank.now w.fronted_env) w.body.begun.types w.body.said.types
      w.body.begun.registers w.body.said.registers q (next_all t q part.steps.items) (plain_goals gs) coded.0 coded.1 in
      let none : names_in front ≡ [] =
      none_named hm.more (front_of.made.some.made.more ++ w.body.neck.more)
      (no_names_in hm.more (head_more_types K front_of.begun front_of.matched around (around_of t.bank.now front_of.matched_env) h.self.head
      (record_of.hd t part captured xs' o1 h w o) front_of.head))
      ∙ none_named front_of.made.some.made.more w.body.neck.more (no_names_in front_of.made.some.made.more front_of.made.some.made.no_types) ∙
      no_names_in w.body.neck.more w.body.neck.plain.no_types in
      let all : names_in h.self.code.items ≡ names_in coded.0 =
      ap names_in (w.code_is ∙ w.body.code_is ∙ ap (λ l. l ++ on.Proceed ∷ []) (coded.2 ∙ ap (λ l. l ++ coded.0)
      (record_of.front_code t part captured xs' o1 h w o)) ∙ append_assoc (record_of.own_types_code t part captured xs' o1 h w o ++ front) coded.0
      (on.Proceed ∷ [])
      ∙ append_assoc (record_of.own_types_code t part captured xs' o1 h w o) front (coded.0 ++ on.Proceed ∷ []))
      ∙ none_named (record_of.own_types_code t part captured xs' o1 h w o) (front ++ (coded.0 ++ on.Proceed ∷ [])) (types_name (is_none part.within) w.begun.types t.type_vars)
      ∙ none_named front (coded.0 ++ on.Proceed ∷ []) none ∙ names_both coded.0 (on.Proceed ∷ []) ∙ append-nil (names_in coded.0) in
      (named.0, all ∙ named.1, named.2)
