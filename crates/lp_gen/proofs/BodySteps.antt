-- The steps of a body's code, each by what its function does.
use Rattle.std.proofs.Common.{◌≡◌, ◌∙◌, ◌≤◌, ℕ, zero, suc, ◌+◌, ◌-◌, List, [], ◌∷◌, ◌++◌, append_assoc, map, take, length, Bool, true, false, Option, Some, None, Vec, Global, ap, refl, sym, subst, arith, ⊎_elim}
use Rattle.std.specs.Prelude.{nat_le, if◌then◌else◌, sum_by, slice_get}
use Rattle.std.proofs.lemmas.List.{length-append, reverse-append}
use Rattle.std.proofs.lemmas.List.Sums.{sum_by-append}
use Rattle.lp_calculus.specs.Types.{Ty}
use Rattle.lp_calculus.specs.Term.{Term}
use Rattle.lp_model.specs.Flat.{Goals, Clauses, Atomic, Cut, Either, Forall, Assume, Not, no_goals}
use Rattle.lp_code.specs.declared.instruction.Instr.{Instr}
use Rattle.lp_code.specs.declared.instruction.Instr.TheVariants as on
use Rattle.lp_code.specs.Length.{length_of}
use Rattle.lp_code.specs.States.{with_goal}
use Rattle.lp_code.specs.Written.{nothing_written}
use Rattle.lp_code.specs.Denote.{from_zero}
use Rattle.lp_gen.specs.declared.emitter.Emitter.{Emitter}
use Rattle.lp_gen.specs.declared.body.Block.{Block}
use Rattle.lp_gen.specs.inner.Running.{IsTypePut}
use Rattle.lp_gen.specs.Steps.{Seen, Around}
use Rattle.lp_gen.specs.inner.TermLaw.{AreSet}
use Rattle.lp_gen.specs.inner.Doing.{AtomWritten}
use Rattle.lp_gen.specs.inner.Bodies.{pushed, new_level, IsShort}
use Rattle.lp_gen.specs.inner.GoalCode.{quantified, numbers, AreRegisters}
use Rattle.lp_gen.specs.inner.OpenGoals.{in_left, in_right, in_some, in_all, in_assumption, in_denial, OpenBlock, block, Walked, walked, closed, into, say, cut, either, turn, end_either, some, all, end_all, end_assume, deny, end_deny}
use Rattle.lp_gen.specs.inner.OpenGoals.{turned, right_ended, all_ended, assumption_ended, denial_ended, Mark, mark, Start, Stands, cut_to, Closes, Leaves, RightLeaves, Turns}
use Rattle.lp_gen.specs.inner.BodyCode.{mark_of, marks, StandsAt, StepTaken, AssumeTaken}
use Rattle.lp_gen.proofs.Pushed.{at_pushed}
use Rattle.lp_gen.proofs.StepsTaken.{said_more, opened_more, block_closes}
use Rattle.lp_gen.proofs.BlocksTaken.{all_leaves, assumption_leaves, denial_leaves, turn_taken, right_leaves}

pub some_walked : (x y : Walked) → ◌≡◌ {A = Option Walked} (Some x) (Some y) → x ≡ y
some_walked x y e = cc

pub no_walked : (x : Walked) → ◌≡◌ {A = Option Walked} None (Some x) → ⊥
no_walked x e = cc

no_seen : (w : Seen) → ◌≡◌ {A = Option Seen} None (Some w) → ⊥
no_seen w e = cc

first_same : (x y : Mark) (xs ys : List Mark) → ◌≡◌ {A = List Mark} (x ∷ xs) (y ∷ ys) → x ≡ y
first_same x y xs ys e = cc

rest_same : (x y : Mark) (xs ys : List Mark) → ◌≡◌ {A = List Mark} (x ∷ xs) (y ∷ ys) → xs ≡ ys
rest_same x y xs ys e = cc

-- variables that are left

pub cut_set : (n : ℕ) (a : Around) → AreSet a → AreSet (cut_to n a)
cut_set n a set l v e = go (nat_le a.base l) refl
  where
    kept : (xs : List Seen) (m i : ℕ) → slice_get (take m xs) i ≡ Some v → slice_get xs i ≡ Some v
    kept xs zero i q = absurd (no_seen v q)
    kept [] (suc m) i q = absurd (no_seen v q)
    kept (x ∷ xs) (suc m) zero q = q
    kept (x ∷ xs) (suc m) (suc i) q = kept xs m i q

    go : (t : Bool) → nat_le a.base l ≡ t → v.is_set ≡ true
    go true f =
        set l v (ap (λ t. if t then slice_get a.own (l - a.base) else a.captured l) f ∙ kept a.own n (l - a.base)
        (sym (ap (λ t. if t then slice_get (take n a.own) (l - a.base) else a.captured l) f) ∙ e))
    go false f = set l v (ap (λ t. if t then slice_get a.own (l - a.base) else a.captured l) f ∙ sym (ap (λ t. if t then slice_get (take n a.own) (l - a.base) else a.captured l) f) ∙ e)

take_less : {A : Type 0} (n : ℕ) (xs : List A) → length (take n xs) ≤ length xs
take_less zero xs = omega arith
take_less (suc n) [] = omega arith
take_less (suc n) (x ∷ xs) = let z = take_less n xs in omega (arith, z)

pub push_set : (a : Around) (k : ℕ) (T : Ty) → AreSet a → AreSet (pushed a (quantified k T))
push_set a k T set l w e = ⊎_elim (λ q. ap (λ (y : Seen). y.is_set) q.1) (λ q. set l w q.1) (at_pushed a (quantified k T) w l e)

pub push_level : (a : Around) (v : Seen) → new_level (pushed a v) ≡ new_level a + 1
push_level a v = let z = length-append a.own (v ∷ []) in omega (arith, z)

marks_more : (bs : List Block) (b : Block) → marks (bs ++ b ∷ []) ≡ mark_of b ∷ marks bs
marks_more bs b = ap (map mark_of) (reverse-append bs (b ∷ []))

pub numbers_length : (q n : ℕ) → length (numbers q n) ≡ n
numbers_length q zero = refl
numbers_length q (suc n) = ap suc (numbers_length (suc q) n)

module _ (P : Around → (records levels : List ℕ) → Clauses → Type 0) (K : ℕ → List Ty → Ty) where
  stands_as : (v : ℕ) (z : Start) (w : Walked) (a b : Around) (n n1 k k1 q : ℕ) (code code1 : List Instr) (ms ms1 : List Mark) → a ≡ b → n ≡ n1 → k ≡ k1 → code ≡ code1 → ms ≡ ms1 →
      Stands P K v z w a n k q code ms → Stands P K v z w b n1 k1 q code1 ms1
  stands_as v z w a b n n1 k k1 q code code1 ms ms1 ea en ek ec em x =
      subst (λ y. Stands P K v z w b n1 k1 q code1 y) em (subst (λ y. Stands P K v z w b n1 k1 q y ms) ec (subst (λ y. Stands P K v z w b n1 y q code ms) ek
      (subst (λ y. Stands P K v z w b y k q code ms) en (subst (λ y. Stands P K v z w y n k q code ms) ea x))))

  pub say_step : (e e' : Emitter) (a a' : Around) (bs : List Block) (t : Term) → AtomWritten K e e' a a' t → StepTaken P K e e' a a' bs bs (say t)
  say_step e e' a a' bs t p = λ v z w w' q x set short adv.
      let same = p.calm set in
      let w1 = walked (with_goal w.said (Atomic t)) w.opened in
      let code = subst (λ y. AtomWritten K e e' a y t) same p in
      let more = said_more P K v z w a e.types e'.types e.registers e'.registers q q e.code.items (marks bs) (Atomic t) code.more x tt (
        record {
          old = e;
          new = e';
          before = record { types_are = refl; registers_are = refl };
          after = record { types_are = refl; registers_are = refl };
          written = code;
          code_is = refl;
          some = code.some;
        },
        refl,
      ) in (
        subst (λ y. StandsAt P K v z y a' e' q bs) (some_walked w1 w' adv)
            (stands_as v z w1 a a' e'.types e'.types e'.registers e'.registers q (e.code.items ++ code.more) e'.code.items (marks bs) (marks bs) (sym same) refl refl (sym code.code_is) refl more),
        subst AreSet (sym same) set,
        (let y = ap new_level same in omega (arith, y)),
      )

  pub cut_step : (e e' : Emitter) (a : Around) (bs : List Block) → e'.code.items ≡ e.code.items ++ on.Cut ∷ [] → e'.types ≡ e.types → e'.registers ≡ e.registers → StepTaken P K e e' a a bs bs cut
  cut_step e e' a bs code types registers = λ v z w w' q x set short adv.
      let w1 = walked (with_goal w.said Cut) w.opened in
      let more = said_more P K v z w a e.types e.types e.registers e.registers q q e.code.items (marks bs) Cut (on.Cut ∷ []) x tt (refl, refl, refl, refl) in (
        subst (λ y. StandsAt P K v z y a e' q bs) (some_walked w1 w' adv)
            (stands_as v z w1 a a e.types e'.types e.registers e'.registers q (e.code.items ++ on.Cut ∷ []) e'.code.items (marks bs) (marks bs) refl (sym types) (sym registers) (sym code) refl more),
        set,
        omega arith,
      )

  -- blocks without a variable
  pub either_step : (e e' : Emitter) (a : Around) (bs bs' : List Block) (b : Block) → bs' ≡ bs ++ b ∷ [] → mark_of b ≡ mark a (length e.code.items) (sum_by length_of e.code.items) →
      e'.code.items ≡ e.code.items ++ on.Either 0 ∷ [] → e'.types ≡ e.types → e'.registers ≡ e.registers → StepTaken P K e e' a a bs bs' either
  either_step e e' a bs bs' b blocks at code types registers = λ v z w w' q x set short adv.
      let w1 = into in_left w in
      let ms = mark a (length e.code.items) (sum_by length_of e.code.items) ∷ marks bs in
      let more = opened_more P K v z w in_left a a e.types e.types e.registers e.registers q q e.code.items (marks bs) ms (on.Either 0 ∷ []) x (refl, refl, refl, refl, refl, refl) in (
        subst (λ y. StandsAt P K v z y a e' q bs') (some_walked w1 w' adv)
            (stands_as v z w1 a a e.types e'.types e.registers e'.registers q (e.code.items ++ on.Either 0 ∷ []) e'.code.items ms (marks bs') refl (sym types) (sym registers) (sym code)
            (sym (ap marks blocks ∙ marks_more bs b ∙ ap (λ y. y ∷ marks bs) at)) more),
        set,
        omega arith,
      )

  pub not_step : (e e' : Emitter) (a : Around) (bs bs' : List Block) (b : Block) → bs' ≡ bs ++ b ∷ [] → mark_of b ≡ mark a (length e.code.items) (sum_by length_of e.code.items) →
      e'.code.items ≡ e.code.items ++ on.Not ∷ [] → e'.types ≡ e.types → e'.registers ≡ e.registers → StepTaken P K e e' a a bs bs' deny
  not_step e e' a bs bs' b blocks at code types registers = λ v z w w' q x set short adv.
      let w1 = into in_denial w in
      let ms = mark a (length e.code.items) (sum_by length_of e.code.items) ∷ marks bs in
      let more = opened_more P K v z w in_denial a a e.types e.types e.registers e.registers q q e.code.items (marks bs) ms (on.Not ∷ []) x
      (refl, refl, refl, refl, refl, length e.code.items, sum_by length_of e.code.items, refl) in (
        subst (λ y. StandsAt P K v z y a e' q bs') (some_walked w1 w' adv)
            (stands_as v z w1 a a e.types e'.types e.registers e'.registers q (e.code.items ++ on.Not ∷ []) e'.code.items ms (marks bs') refl (sym types) (sym registers) (sym code)
            (sym (ap marks blocks ∙ marks_more bs b ∙ ap (λ y. y ∷ marks bs) at)) more),
        set,
        omega arith,
      )

  -- blocks with a variable
  pub some_step : (e e1 e2 : Emitter) (a a' : Around) (bs : List Block) (r : ℕ) (T : Ty) → IsTypePut e e1 r T → e2.code.items ≡ e1.code.items ++ on.Sigma e1.registers r ∷ [] → e2.types ≡ e1.types →
      e2.registers ≡ e1.registers + 1 → a' ≡ pushed a (quantified e1.registers T) → StepTaken P K e e2 a a' bs bs (some T)
  some_step e e1 e2 a a' bs r T put code types registers around = λ v z w w' q x set short adv.
      let w1 = into (in_some T) w in
      let k = e.registers in
      let stay = put.registers_stay in
      let is = put.more ++ on.Sigma k r ∷ [] in
      let level = push_level a (quantified k T) in
      let small : IsShort (pushed a (quantified k T)) = omega (arith, level, short) in
      let more = opened_more P K v z w (in_some T) a (pushed a (quantified k T)) e.types e1.types k (k + 1) q q e.code.items (marks bs) (marks bs) is x
      (refl, small, refl, refl, r, put.more, record { old = e; new = e1; before = refl; after = refl; put = put; code_is = refl }, refl, refl) in
      let same : a' ≡ pushed a (quantified k T) = around ∙ ap (λ y. pushed a (quantified y T)) stay in (
        subst (λ y. StandsAt P K v z y a' e2 q bs) (some_walked w1 w' adv)
            (stands_as v z w1 (pushed a (quantified k T)) a' e1.types e2.types (k + 1) e2.registers q (e.code.items ++ is) e2.code.items (marks bs) (marks bs) (sym same) (sym types)
            (omega (arith, registers, stay)) (sym (code ∙ (λ i. put.code_is i ++ on.Sigma (stay i) r ∷ []) ∙ append_assoc e.code.items put.more (on.Sigma k r ∷ []))) refl more),
        subst AreSet (sym same) (push_set a k T set),
        (let y = ap new_level same in omega (arith, y, level)),
      )

  pub all_step : (e e1 e2 : Emitter) (a a' : Around) (bs bs' : List Block) (b : Block) (r : ℕ) (T : Ty) → IsTypePut e e1 r T → e2.code.items ≡
      e1.code.items ++ on.All e1.registers r ∷ [] → e2.types ≡ e1.types →
      e2.registers ≡ e1.registers + 1 → a' ≡ pushed a (quantified e1.registers T) → bs' ≡ bs ++ b ∷ [] → b.variables ≡ length a.own → StepTaken P K e e2 a a' bs bs' (all T)
  all_step e e1 e2 a a' bs bs' b r T put code types registers around blocks variables = λ v z w w' q x set short adv.
      let w1 = into (in_all T) w in
      let k = e.registers in
      let stay = put.registers_stay in
      let is = put.more ++ on.All k r ∷ [] in
      let level = push_level a (quantified k T) in
      let small : IsShort (pushed a (quantified k T)) = omega (arith, level, short) in
      let ms = mark a b.at b.from ∷ marks bs in
      let more = opened_more P K v z w (in_all T) a (pushed a (quantified k T)) e.types e1.types k (k + 1) q q e.code.items (marks bs) ms is x
      (refl, small, refl, refl, r, put.more, record { old = e; new = e1; before = refl; after = refl; put = put; code_is = refl }, refl, b.at, b.from, refl) in
      let same : a' ≡ pushed a (quantified k T) = around ∙ ap (λ y. pushed a (quantified y T)) stay in (
        subst (λ y. StandsAt P K v z y a' e2 q bs') (some_walked w1 w' adv)
            (stands_as v z w1 (pushed a (quantified k T)) a' e1.types e2.types (k + 1) e2.registers q (e.code.items ++ is) e2.code.items ms (marks bs') (sym same) (sym types)
            (omega (arith, registers, stay)) (sym (code ∙ (λ i. put.code_is i ++ on.All (stay i) r ∷ []) ∙ append_assoc e.code.items put.more (on.All k r ∷ [])))
            (sym (ap marks blocks ∙ marks_more bs b ∙ (λ i. record { variables = variables i; at = b.at; from = b.from } ∷ marks bs))) more),
        subst AreSet (sym same) (push_set a k T set),
        (let y = ap new_level same in omega (arith, y, level)),
      )

  -- an assumption, which names the next records
  pub assume_step : (v : ℕ) (e e' : Emitter) (a : Around) (bs bs' : List Block) (b : Block) (cs : Clauses) (first count : ℕ) (ns ts rs : Vec ℕ Global) (ls : List ℕ) → P a ns.items ls cs →
      AreRegisters a ls rs.items → ts.items ≡ from_zero v → ns.items ≡ numbers first count → bs' ≡ bs ++ b ∷ [] → b.variables ≡ length a.own → e'.code.items ≡ e.code.items ++ on.Assume ns ts rs ∷ [] →
      e'.types ≡ e.types → e'.registers ≡ e.registers → AssumeTaken P K v e e' a a bs bs' cs first count
  assume_step v e e' a bs bs' b cs first count ns ts rs ls coded are of named blocks variables code types registers = λ z w w' x set short adv.
      let w1 = into (in_assumption cs) w in
      let ms = mark a b.at b.from ∷ marks bs in
      let many : length ns.items ≡ count = ap length named ∙ numbers_length first count in
      let named1 : ns.items ≡ numbers first (length ns.items) = named ∙ ap (numbers first) (sym many) in
      let last : first + count ≡ first + length ns.items = omega (arith, many) in
      let more = opened_more P K v z w (in_assumption cs) a a e.types e.types e.registers e.registers first (first + count) e.code.items (marks bs) ms (on.Assume ns ts rs ∷ []) x
      (refl, refl, refl, ns, ts, rs, ls, coded, are, of, named1, last, refl, b.at, b.from, refl) in (
        subst (λ y. StandsAt P K v z y a e' (first + count) bs') (some_walked w1 w' adv)
            (stands_as v z w1 a a e.types e'.types e.registers e'.registers (first + count) (e.code.items ++ on.Assume ns ts rs ∷ []) e'.code.items ms
            (marks bs') refl (sym types) (sym registers) (sym code)
            (sym (ap marks blocks ∙ marks_more bs b ∙ (λ i. record { variables = variables i; at = b.at; from = b.from } ∷ marks bs))) more),
        set,
        omega arith,
      )

  -- ends

  -- what is left behind the end of a block
  abbrev Ends : (e e' : Emitter) → (a a' : Around) → (bs bs' : List Block) → (b : Block) → Instr → Type 0
  Ends e e' a a' bs bs' b i =
      (bs ≡ bs' ++ b ∷ []) × (a' ≡ cut_to b.variables a) × (e'.code.items ≡ e.code.items ++ i ∷ []) × (e'.types ≡ e.types) × (e'.registers ≡ e.registers)

  left_around : (a b c : Around) (bs bs' : List Block) (l : Block) (at from : ℕ) (outer : List Mark) → bs ≡ bs' ++ l ∷ [] → marks bs ≡ mark b at from ∷ outer → b ≡ cut_to (length b.own) a →
      c ≡ cut_to l.variables a → (b ≡ c) × (outer ≡ marks bs')
  left_around a b c bs bs' l at from outer eb em left shorter =
      let same = sym (ap marks eb ∙ marks_more bs' l) ∙ em in
      let many : l.variables ≡ length b.own = ap (λ (m : Mark). m.variables) (first_same (mark_of l) (mark b at from) (marks bs') outer same) in
      (left ∙ ap (λ n. cut_to n a) (sym many) ∙ sym shorter, sym (rest_same (mark_of l) (mark b at from) (marks bs') outer same))

  block_left : (e e' : Emitter) (a a' : Around) (bs bs' : List Block) (b : Block) (i : Instr) (v : ℕ) (z : Start) (w : Walked) (q : ℕ) → Ends e e' a a' bs bs' b i → AreSet a →
      Leaves P K v z w a e.types e.registers q (e.code.items ++ i ∷ []) (marks bs) → StandsAt P K v z w a' e' q bs' × AreSet a' × (new_level a' ≤ new_level a + 1)
  block_left e e' a a' bs bs' b i v z w q (blocks, around, code, types, registers) set x =
      let y = left_around a x.around a' bs bs' b x.at x.from x.outer blocks x.marks_are x.left around in (
        stands_as v z w x.around a' e.types e'.types e.registers e'.registers q (e.code.items ++ i ∷ []) e'.code.items x.outer (marks bs') y.0 (sym types) (sym registers) (sym code) y.1 x.stands,
        subst AreSet (sym around) (cut_set b.variables a set),
        (let less = take_less b.variables a.own in let same = ap new_level around in omega (arith, less, same)),
      )

  pub end_all_step : (e e' : Emitter) (a a' : Around) (bs bs' : List Block) (b : Block) → Ends e e' a a' bs bs' b on.EndAll → StepTaken P K e e' a a' bs bs' end_all
  end_all_step e e' a a' bs bs' b ends = λ v z w w' q x set short adv.
      go v z w' q set (closed w.said w.opened).said (closed w.said w.opened).opened (block_closes P K v z w a e.types e.registers q e.code.items (marks bs) x) adv
    where
      go : (v : ℕ) (z : Start) (w' : Walked) (q : ℕ) → AreSet a → (gs : Goals) (os : List OpenBlock) → Closes P K v z (walked gs os) a e.types e.registers q e.code.items (marks bs) →
          all_ended gs os ≡ Some w' → StandsAt P K v z w' a' e' q bs' × AreSet a' × (new_level a' ≤ new_level a + 1)
      go v z w' q set gs [] c adv = absurd (no_walked w' adv)
      go v z w' q set gs (block in_left hs ∷ os) c adv = absurd (no_walked w' adv)
      go v z w' q set gs (block (in_right l) hs ∷ os) c adv = absurd (no_walked w' adv)
      go v z w' q set gs (block (in_some T) hs ∷ os) c adv = absurd (no_walked w' adv)
      go v z w' q set gs (block (in_all T) hs ∷ os) c adv =
          block_left e e' a a' bs bs' b on.EndAll v z w' q ends set (subst (λ y. Leaves P K v z y a e.types e.registers q (e.code.items ++ on.EndAll ∷ []) (marks bs))
          (some_walked (walked (with_goal hs (Forall T gs)) os) w' adv) (all_leaves P K v z T gs hs os a e.types e.registers q e.code.items (marks bs) c))
      go v z w' q set gs (block (in_assumption cs) hs ∷ os) c adv = absurd (no_walked w' adv)
      go v z w' q set gs (block in_denial hs ∷ os) c adv = absurd (no_walked w' adv)

  pub end_assume_step : (e e' : Emitter) (a a' : Around) (bs bs' : List Block) (b : Block) → Ends e e' a a' bs bs' b on.EndAssume → StepTaken P K e e' a a' bs bs' end_assume
  end_assume_step e e' a a' bs bs' b ends = λ v z w w' q x set short adv.
      go v z w' q set (closed w.said w.opened).said (closed w.said w.opened).opened (block_closes P K v z w a e.types e.registers q e.code.items (marks bs) x) adv
    where
      go : (v : ℕ) (z : Start) (w' : Walked) (q : ℕ) → AreSet a → (gs : Goals) (os : List OpenBlock) → Closes P K v z (walked gs os) a e.types e.registers q e.code.items (marks bs) →
          assumption_ended gs os ≡ Some w' → StandsAt P K v z w' a' e' q bs' × AreSet a' × (new_level a' ≤ new_level a + 1)
      go v z w' q set gs [] c adv = absurd (no_walked w' adv)
      go v z w' q set gs (block in_left hs ∷ os) c adv = absurd (no_walked w' adv)
      go v z w' q set gs (block (in_right l) hs ∷ os) c adv = absurd (no_walked w' adv)
      go v z w' q set gs (block (in_some T) hs ∷ os) c adv = absurd (no_walked w' adv)
      go v z w' q set gs (block (in_all T) hs ∷ os) c adv = absurd (no_walked w' adv)
      go v z w' q set gs (block (in_assumption cs) hs ∷ os) c adv =
          block_left e e' a a' bs bs' b on.EndAssume v z w' q ends set (subst (λ y. Leaves P K v z y a e.types e.registers q (e.code.items ++ on.EndAssume ∷ []) (marks bs))
          (some_walked (walked (with_goal hs (Assume nothing_written cs gs)) os) w' adv) (assumption_leaves P K v z cs gs hs os a e.types e.registers q e.code.items (marks bs) c))
      go v z w' q set gs (block in_denial hs ∷ os) c adv = absurd (no_walked w' adv)

  pub end_not_step : (e e' : Emitter) (a a' : Around) (bs bs' : List Block) (b : Block) → Ends e e' a a' bs bs' b on.EndNot → StepTaken P K e e' a a' bs bs' end_deny
  end_not_step e e' a a' bs bs' b ends = λ v z w w' q x set short adv.
      go v z w' q set (closed w.said w.opened).said (closed w.said w.opened).opened (block_closes P K v z w a e.types e.registers q e.code.items (marks bs) x) adv
    where
      go : (v : ℕ) (z : Start) (w' : Walked) (q : ℕ) → AreSet a → (gs : Goals) (os : List OpenBlock) → Closes P K v z (walked gs os) a e.types e.registers q e.code.items (marks bs) →
          denial_ended gs os ≡ Some w' → StandsAt P K v z w' a' e' q bs' × AreSet a' × (new_level a' ≤ new_level a + 1)
      go v z w' q set gs [] c adv = absurd (no_walked w' adv)
      go v z w' q set gs (block in_left hs ∷ os) c adv = absurd (no_walked w' adv)
      go v z w' q set gs (block (in_right l) hs ∷ os) c adv = absurd (no_walked w' adv)
      go v z w' q set gs (block (in_some T) hs ∷ os) c adv = absurd (no_walked w' adv)
      go v z w' q set gs (block (in_all T) hs ∷ os) c adv = absurd (no_walked w' adv)
      go v z w' q set gs (block (in_assumption cs) hs ∷ os) c adv = absurd (no_walked w' adv)
      go v z w' q set gs (block in_denial hs ∷ os) c adv =
          block_left e e' a a' bs bs' b on.EndNot v z w' q ends set (subst (λ y. Leaves P K v z y a e.types e.registers q (e.code.items ++ on.EndNot ∷ []) (marks bs))
          (some_walked (walked (with_goal hs (Not nothing_written gs)) os) w' adv) (denial_leaves P K v z gs hs os a e.types e.registers q e.code.items (marks bs) c))

  -- the left side gives way to the right one, and the right one ends: their bytes are known now
  pub turn_step : (e e1 e2 : Emitter) (a a' : Around) (bs bs1 bs2 : List Block) (left right : Block) (bytes : ℕ) → bs ≡ bs1 ++ left ∷ [] → a' ≡ cut_to left.variables a →
      mark_of right ≡ mark a' (length e.code.items) (sum_by length_of e.code.items) → e1.code.items ≡ e.code.items ++ on.Jump 0 ∷ [] → e1.types ≡ e.types → e1.registers ≡ e.registers →
      (left.from + 5 ≤ sum_by length_of e1.code.items → bytes ≡ sum_by length_of e1.code.items - (left.from + 5)) →
      ((xs ys : List Instr) (n : ℕ) → e1.code.items ≡ xs ++ on.Either n ∷ ys → left.at ≡ length xs → e2.code.items ≡ xs ++ on.Either bytes ∷ ys) → e2.types ≡ e1.types → e2.registers ≡ e1.registers →
      bs2 ≡ bs1 ++ right ∷ [] → StepTaken P K e e2 a a' bs bs2 turn
  turn_step e e1 e2 a a' bs bs1 bs2 left right bytes blocks around at code types registers counted patched types2 registers2 blocks2 = λ v z w w' q x set short adv.
      go v z w' q set (closed w.said w.opened).said (closed w.said w.opened).opened (block_closes P K v z w a e.types e.registers q e.code.items (marks bs) x) adv
    where
      taken : (v : ℕ) (z : Start) (w : Walked) (q : ℕ) → AreSet a → Turns P K v z w a e.types e.registers q e.code.items (marks bs) →
          StandsAt P K v z w a' e2 q bs2 × AreSet a' × (new_level a' ≤ new_level a + 1)
      taken v z w q set t =
          let y = left_around a t.around a' bs bs1 left (length t.lead) t.from t.outer blocks t.marks_are t.left around in
          let same = sym (ap marks blocks ∙ marks_more bs1 left) ∙ t.marks_are in
          let here = first_same (mark_of left) (mark t.around (length t.lead) t.from) (marks bs1) t.outer same in
          let at_is : left.at ≡ length t.lead = ap (λ (m : Mark). m.at) here in
          let from_is : left.from ≡ t.from = ap (λ (m : Mark). m.from) here in
          let whole : e1.code.items ≡ t.lead ++ on.Either 0 ∷ (t.rest ++ on.Jump 0 ∷ []) = code ∙ ap (λ l. l ++ on.Jump 0 ∷ []) t.code_is ∙
          append_assoc t.lead (on.Either 0 ∷ t.rest) (on.Jump 0 ∷ []) in
          let size = ap (sum_by length_of) code ∙ sum_by-append length_of e.code.items (on.Jump 0 ∷ []) in
          let five : sum_by length_of (on.Jump 0 ∷ []) ≡ 5 = refl in
          let low = t.from_low in
          let count = counted (omega (arith, size, five, from_is, low)) in
          let x = t.stands bytes (omega (arith, count, size, five, from_is)) in (
            stands_as v z w t.around a' e.types e2.types e.registers e2.registers q (t.lead ++ on.Either bytes ∷ (t.rest ++ on.Jump 0 ∷ [])) e2.code.items
                (mark t.around (length e.code.items) (sum_by length_of e.code.items) ∷ t.outer) (marks bs2) y.0 (sym (types2 ∙ types)) (sym (registers2 ∙ registers))
                (sym (patched t.lead (t.rest ++ on.Jump 0 ∷ []) 0 whole at_is))
                ((λ i. mark (y.0 i) (length e.code.items) (sum_by length_of e.code.items) ∷ y.1 i) ∙ sym (ap marks blocks2 ∙ marks_more bs1 right ∙ ap (λ m. m ∷ marks bs1) at)) x,
            subst AreSet (sym around) (cut_set left.variables a set),
            (let less = take_less left.variables a.own in let same_level = ap new_level around in omega (arith, less, same_level)),
          )

      go : (v : ℕ) (z : Start) (w' : Walked) (q : ℕ) → AreSet a → (gs : Goals) (os : List OpenBlock) → Closes P K v z (walked gs os) a e.types e.registers q e.code.items (marks bs) →
          turned gs os ≡ Some w' → StandsAt P K v z w' a' e2 q bs2 × AreSet a' × (new_level a' ≤ new_level a + 1)
      go v z w' q set gs [] c adv = absurd (no_walked w' adv)
      go v z w' q set gs (block in_left hs ∷ os) c adv =
          subst (λ y. StandsAt P K v z y a' e2 q bs2 × AreSet a' × (new_level a' ≤ new_level a + 1)) (some_walked (walked no_goals (block (in_right gs) hs ∷ os)) w' adv)
          (taken v z (walked no_goals (block (in_right gs) hs ∷ os)) q set (turn_taken P K v z gs hs os a e.types e.registers q e.code.items (marks bs) c))
      go v z w' q set gs (block (in_right l) hs ∷ os) c adv = absurd (no_walked w' adv)
      go v z w' q set gs (block (in_some T) hs ∷ os) c adv = absurd (no_walked w' adv)
      go v z w' q set gs (block (in_all T) hs ∷ os) c adv = absurd (no_walked w' adv)
      go v z w' q set gs (block (in_assumption cs) hs ∷ os) c adv = absurd (no_walked w' adv)
      go v z w' q set gs (block in_denial hs ∷ os) c adv = absurd (no_walked w' adv)

  pub end_either_step : (e e' : Emitter) (a a' : Around) (bs bs' : List Block) (right : Block) (bytes : ℕ) → bs ≡ bs' ++ right ∷ [] → a' ≡ cut_to right.variables a →
      (right.from + 5 ≤ sum_by length_of e.code.items → bytes ≡ sum_by length_of e.code.items - (right.from + 5)) →
      ((xs ys : List Instr) (n : ℕ) → e.code.items ≡ xs ++ on.Jump n ∷ ys → right.at ≡ length xs → e'.code.items ≡ xs ++ on.Jump bytes ∷ ys) → e'.types ≡ e.types → e'.registers ≡ e.registers →
      StepTaken P K e e' a a' bs bs' end_either
  end_either_step e e' a a' bs bs' right bytes blocks around counted patched types registers = λ v z w w' q x set short adv.
      go v z w' q set (closed w.said w.opened).said (closed w.said w.opened).opened (block_closes P K v z w a e.types e.registers q e.code.items (marks bs) x) adv
    where
      taken : (v : ℕ) (z : Start) (w : Walked) (q : ℕ) → AreSet a → RightLeaves P K v z w a e.types e.registers q e.code.items (marks bs) →
          StandsAt P K v z w a' e' q bs' × AreSet a' × (new_level a' ≤ new_level a + 1)
      taken v z w q set t =
          let y = left_around a t.around a' bs bs' right (length t.lead) t.from t.outer blocks t.marks_are t.left around in
          let same = sym (ap marks blocks ∙ marks_more bs' right) ∙ t.marks_are in
          let here = first_same (mark_of right) (mark t.around (length t.lead) t.from) (marks bs') t.outer same in
          let at_is : right.at ≡ length t.lead = ap (λ (m : Mark). m.at) here in
          let from_is : right.from ≡ t.from = ap (λ (m : Mark). m.from) here in
          let low = t.from_low in
          let count = counted (omega (arith, from_is, low)) in
          let x = t.stands bytes (omega (arith, count, from_is)) in (
            stands_as v z w t.around a' e.types e'.types e.registers e'.registers q (t.lead ++ on.Jump bytes ∷ t.rest) e'.code.items t.outer (marks bs') y.0 (sym types) (sym registers)
                (sym (patched t.lead t.rest 0 t.code_is at_is)) y.1 x,
            subst AreSet (sym around) (cut_set right.variables a set),
            (let less = take_less right.variables a.own in let same_level = ap new_level around in omega (arith, less, same_level)),
          )

      go : (v : ℕ) (z : Start) (w' : Walked) (q : ℕ) → AreSet a → (gs : Goals) (os : List OpenBlock) → Closes P K v z (walked gs os) a e.types e.registers q e.code.items (marks bs) →
          right_ended gs os ≡ Some w' → StandsAt P K v z w' a' e' q bs' × AreSet a' × (new_level a' ≤ new_level a + 1)
      go v z w' q set gs [] c adv = absurd (no_walked w' adv)
      go v z w' q set gs (block in_left hs ∷ os) c adv = absurd (no_walked w' adv)
      go v z w' q set gs (block (in_right l) hs ∷ os) c adv =
          subst (λ y. StandsAt P K v z y a' e' q bs' × AreSet a' × (new_level a' ≤ new_level a + 1)) (some_walked (walked (with_goal hs (Either l gs)) os) w' adv)
          (taken v z (walked (with_goal hs (Either l gs)) os) q set (right_leaves P K v z l gs hs os a e.types e.registers q e.code.items (marks bs) c))
      go v z w' q set gs (block (in_some T) hs ∷ os) c adv = absurd (no_walked w' adv)
      go v z w' q set gs (block (in_all T) hs ∷ os) c adv = absurd (no_walked w' adv)
      go v z w' q set gs (block (in_assumption cs) hs ∷ os) c adv = absurd (no_walked w' adv)
      go v z w' q set gs (block in_denial hs ∷ os) c adv = absurd (no_walked w' adv)
