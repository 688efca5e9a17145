-- Each goal of the table that is taken apart becomes the tasks of the definition.
use Rattle.std.proofs.Common.{◌≡◌, ℕ, List, [], ◌∷◌, length, sym, ap, ◌∙◌, subst, arith, Option}
use Rattle.std.proofs.lemmas.List.{length-append}
use Rattle.lp_calculus.specs.Term.{Term}
use Rattle.lp_calculus.specs.Types.{instance}
use Rattle.lp_term.specs.Nodes.{Nodes}
use Rattle.lp_model.specs.declared.connective.Connective.{Connective}
use Rattle.lp_model.specs.Branch.{Branch}
use Rattle.lp_model.specs.Connected.{IsConnectiveIn, connective_in}
use Rattle.lp_model.specs.Flat.{Goal, Clause, Atomic, Cut, Either, Exists, Forall, Assume, Not, collect_clauses}
use Rattle.lp_model.specs.Search.{look_form, look_goal}
use Rattle.lp_plain.specs.declared.frame.Place.{Place}
use Rattle.lp_plain.specs.declared.machine.Machine.{Machine}
use Rattle.lp_plain.specs.declared.table.Flat.{Flat}
use Rattle.lp_plain.specs.declared.table.Span.{Span}
use Rattle.lp_plain.specs.Assuming.{lists_of, ArePlaced, GrowsAt, IsPlaceAt, clauses_in, written_at}
use Rattle.lp_plain.specs.Apart.{apart}
use Rattle.lp_plain.specs.Entries.{Around, ArePartsOf, IsBehind, entry_at, in_scope}
use Rattle.lp_plain.specs.Renewal.{renewing}
use Rattle.lp_plain.specs.Tables.{AreClausesOf, IsListOf, IsNumbered, shown}
use Rattle.lp_plain.specs.Taking.{GoesQuietly, KeepsNew, TakesApart, TakesKnown, TakesOne}
use Rattle.lp_plain.specs.Within.{StandsIn}
use Rattle.lp_plain.proofs.Assuming.{TakesAssume}
use Rattle.lp_plain.proofs.Grown.{KeepsThat, placed_on, same_around}
use Rattle.lp_plain.proofs.Opening.{TakesQuantified}
use Rattle.lp_plain.proofs.Taken.{TakesEither}

-- no alternative came
no_new : (m n : Machine) (a : Around) → n.choices.items ≡ m.choices.items → KeepsNew m n a
no_new m n a e c q = absurd (let l = ap length (sym e ∙ q) ∙ length-append m.choices.items (c ∷ []) in omega (arith, l))

module _ (m n : Machine) (p : Place) (flat : Flat) (o : Option ℕ) where
  pub either_taken : (left right : ℕ) → flat ≡ Flat.Either left right → TakesEither m n p left right o → GrowsAt m n p → (StandsIn m → StandsIn n) →
      GoesQuietly m n → ((a : Around) → StandsIn m → ArePlaced m a → IsPlaceAt (lists_of m) a p → KeepsNew m n a) → TakesApart m n p flat o
  either_taken left right e t g sn q kp a (Either gs hs) σ b i pl h tk ig at w u k height P =
      let l : ig.0 ≡ left = (let z = ig.2 in cc) in
      let r : ig.1 ≡ right = (let z = ig.2 in cc) in
      record {
        around = a;
        later = same_around (length m.newest.items) (length m.standings.items) a;
        placed = placed_on m n a p g i pl h;
        stands = sn i;
        parts = t a gs hs σ b (subst (λ z. IsListOf m.bank m.table z gs) l ig.3, at) (subst (λ z. IsListOf m.bank m.table z hs) r ig.4, at) w u k height P;
        kept = kp a i pl h;
        quiet = q;
      }
  either_taken left right e t g sn q kp a (Exists T gs) σ b i pl h tk ig at w u k height P = absurd (let z = ig.1 in cc)
  either_taken left right e t g sn q kp a (Forall T gs) σ b i pl h tk ig at w u k height P = absurd (let z = ig.1 in cc)
  either_taken left right e t g sn q kp a (Assume v cs gs) σ b i pl h tk ig at w u k height P = absurd (let z = ig.3 in cc)
  either_taken left right e t g sn q kp a (Atomic x) σ b i pl h tk ig at w u k height P = absurd tk
  either_taken left right e t g sn q kp a Cut σ b i pl h tk ig at w u k height P = absurd tk
  either_taken left right e t g sn q kp a (Not v gs) σ b i pl h tk ig at w u k height P = absurd tk

  pub some_taken : (list : ℕ) → flat ≡ Flat.Some list → TakesQuantified Exists m n p list o → GrowsAt m n p → (StandsIn m → StandsIn n) → GoesQuietly m n → TakesApart m n p flat o
  some_taken list e t g sn q a (Exists T gs) σ b i pl h tk ig at w u k height P =
      let l : ig.0 ≡ list = (let z = ig.1 in cc) in
      let ts = t a gs σ b i (subst (λ z. IsListOf m.bank m.table z gs) l ig.2, at) w u k height P (instance (renewing p.values.types) T) in
      record {
        around = a;
        later = same_around (length m.newest.items) (length m.standings.items) a;
        placed = placed_on m n a p g i pl h;
        stands = sn i;
        parts = ts;
        kept = no_new m n a ts.1;
        quiet = q;
      }
  some_taken list e t g sn q a (Either gs hs) σ b i pl h tk ig at w u k height P = absurd (let z = ig.2 in cc)
  some_taken list e t g sn q a (Forall T gs) σ b i pl h tk ig at w u k height P = absurd (let z = ig.1 in cc)
  some_taken list e t g sn q a (Assume v cs gs) σ b i pl h tk ig at w u k height P = absurd (let z = ig.3 in cc)
  some_taken list e t g sn q a (Atomic x) σ b i pl h tk ig at w u k height P = absurd tk
  some_taken list e t g sn q a Cut σ b i pl h tk ig at w u k height P = absurd tk
  some_taken list e t g sn q a (Not v gs) σ b i pl h tk ig at w u k height P = absurd tk

  pub all_taken : (list : ℕ) → flat ≡ Flat.All list → TakesQuantified Forall m n p list o → GrowsAt m n p → (StandsIn m → StandsIn n) → GoesQuietly m n → TakesApart m n p flat o
  all_taken list e t g sn q a (Forall T gs) σ b i pl h tk ig at w u k height P =
      let l : ig.0 ≡ list = (let z = ig.1 in cc) in
      let ts = t a gs σ b i (subst (λ z. IsListOf m.bank m.table z gs) l ig.2, at) w u k height P (instance (renewing p.values.types) T) in
      record {
        around = a;
        later = same_around (length m.newest.items) (length m.standings.items) a;
        placed = placed_on m n a p g i pl h;
        stands = sn i;
        parts = ts;
        kept = no_new m n a ts.1;
        quiet = q;
      }
  all_taken list e t g sn q a (Either gs hs) σ b i pl h tk ig at w u k height P = absurd (let z = ig.2 in cc)
  all_taken list e t g sn q a (Exists T gs) σ b i pl h tk ig at w u k height P = absurd (let z = ig.1 in cc)
  all_taken list e t g sn q a (Assume v cs gs) σ b i pl h tk ig at w u k height P = absurd (let z = ig.3 in cc)
  all_taken list e t g sn q a (Atomic x) σ b i pl h tk ig at w u k height P = absurd tk
  all_taken list e t g sn q a Cut σ b i pl h tk ig at w u k height P = absurd tk
  all_taken list e t g sn q a (Not v gs) σ b i pl h tk ig at w u k height P = absurd tk

  pub assume_taken : (s : Span) (list free : ℕ) → flat ≡ Flat.Assume s list free → TakesAssume m n p s list free o → GoesQuietly m n → TakesApart m n p flat o
  assume_taken s list free e t qt a (Assume v cs gs) σ b i pl h tk ig at w u k height P =
      let q : Flat.Assume ig.0 ig.1 ig.2 ≡ Flat.Assume s list free = sym ig.3 ∙ e in
      let qs : ig.0 ≡ s = cc in
      let ql : ig.1 ≡ list = cc in
      let qf : ig.2 ≡ free = cc in
      let x = t a cs gs σ b i pl h (subst (λ z. AreClausesOf m.bank m.table z cs) qs ig.5)
      (subst (λ z. IsNumbered (shown m.table).frees z (λ f. collect_clauses f 0 cs)) qf ig.7)
      (subst (λ z. IsListOf m.bank m.table z gs) ql ig.6, at) w u k height P in
      subst (λ z. TakesOne m n a (look_goal u k P height (entry_at a p (Assume (written_at σ p.values.types z) (clauses_in σ p.values.types cs)
      (in_scope σ p.values.types gs))) b (Assume (written_at σ p.values.types z) (clauses_in σ p.values.types cs)
      (in_scope σ p.values.types gs)))) (sym ig.4)
      (record { around = x.0; later = x.1; placed = x.2; stands = x.3; parts = x.4; kept = no_new m n x.0 x.4.1; quiet = qt })
  assume_taken s list free e t qt a (Either gs hs) σ b i pl h tk ig at w u k height P = absurd (let z = ig.2 in cc)
  assume_taken s list free e t qt a (Exists T gs) σ b i pl h tk ig at w u k height P = absurd (let z = ig.1 in cc)
  assume_taken s list free e t qt a (Forall T gs) σ b i pl h tk ig at w u k height P = absurd (let z = ig.1 in cc)
  assume_taken s list free e t qt a (Atomic x) σ b i pl h tk ig at w u k height P = absurd tk
  assume_taken s list free e t qt a Cut σ b i pl h tk ig at w u k height P = absurd tk
  assume_taken s list free e t qt a (Not v gs) σ b i pl h tk ig at w u k height P = absurd tk

  -- no other one is taken apart
  pub none_taken : ((l r : ℕ) → flat ≡ Flat.Either l r → ⊥) → ((l : ℕ) → flat ≡ Flat.Some l → ⊥) → ((l : ℕ) → flat ≡ Flat.All l → ⊥) →
      ((s : Span) (l f : ℕ) → flat ≡ Flat.Assume s l f → ⊥) → TakesApart m n p flat o
  none_taken e s f y a (Either gs hs) σ b i pl h tk ig at w u k height P = absurd (e ig.0 ig.1 ig.2)
  none_taken e s f y a (Exists T gs) σ b i pl h tk ig at w u k height P = absurd (s ig.0 ig.1)
  none_taken e s f y a (Forall T gs) σ b i pl h tk ig at w u k height P = absurd (f ig.0 ig.1)
  none_taken e s f y a (Assume v cs gs) σ b i pl h tk ig at w u k height P = absurd (y ig.0 ig.1 ig.2 ig.3)
  none_taken e s f y a (Atomic x) σ b i pl h tk ig at w u k height P = absurd tk
  none_taken e s f y a Cut σ b i pl h tk ig at w u k height P = absurd tk
  none_taken e s f y a (Not v gs) σ b i pl h tk ig at w u k height P = absurd tk

-- a goal that is known at run time

pub no_other : (m n : Machine) (p : Place) → n.choices.items ≡ m.choices.items → KeepsThat m n p
no_other m n p e = λ a i pl h. no_new m n a e

pub stands_known : (m c n : Machine) (Q : Nodes → Type 0) → c ≡ apart m → (Q c.bank → StandsIn c → StandsIn n) → Q m.bank → StandsIn m → StandsIn n
stands_known m c n Q e g q i = let h : Q m.bank → StandsIn (apart m) → StandsIn n = subst (λ z. Q z.bank → StandsIn z → StandsIn n) e g in h q
    (record { table = i.table; values = i.values; frames = i.frames })

pub known_taken : (m n : Machine) (p : Place) (k : Connective) (o : Option ℕ) → ((a : Around) (b : Branch) → StandsIn m → IsConnectiveIn m.bank k →
    IsBehind m a o b → (u z height : ℕ) (P : List Clause) (t : Term) (g : Goal) → ArePartsOf m n a
    (look_form u z P height (entry_at a p g) b t (connective_in m.bank k))) →
    GrowsAt m n p → (IsConnectiveIn m.bank k → StandsIn m → StandsIn n) → GoesQuietly m n → KeepsThat m n p → TakesKnown m n p k o
known_taken m n p k o parts g sn q kp a b i pl h c w u z height P t x = record {
  around = a;
  later = same_around (length m.newest.items) (length m.standings.items) a;
  placed = placed_on m n a p g i pl h;
  stands = sn c i;
  parts = parts a b i c w u z height P t x;
  kept = kp a i pl h;
  quiet = q;
}
