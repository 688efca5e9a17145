-- What a cut leaves of the tasks of alternatives.
use Rattle.std.proofs.Common.{◌≡◌, ℕ, zero, suc, ◌+◌, ◌-◌, ◌<◌, ◌≤◌, List, [], ◌∷◌, ◌++◌, length, take, drop, refl, sym, ap, ◌∙◌, arith, append-nil, append_assoc, min, nat_lt, Bool, true, false}
use Rattle.std.specs.Prelude.{All, ◌||◌}
use Rattle.std.proofs.lemmas.Bool.Decides.{nat_tests}
use Rattle.std.proofs.lemmas.List.{length-append}
use Rattle.std.proofs.lemmas.List.Elements.{All-head, All-tail}
use Rattle.lp_model.specs.Branch.{Task}
use Rattle.lp_model.specs.Skeleton.{oldest}
use Rattle.lp_plain.specs.declared.machine.Machine.{Machine}
use Rattle.lp_plain.proofs.Growing.{all_taken}
use Rattle.lp_plain.specs.Stacks.{stack_of, base_of, HaveTasks, IsMarkOf, CutsTasks}

dropped_front : {X : Type 0} (xs ys : List X) (n : ℕ) → n ≡ length xs → drop n (xs ++ ys) ≡ ys
dropped_front [] ys zero e = refl
dropped_front [] ys (suc n) e = absurd (omega (arith, e))
dropped_front (x ∷ xs) ys zero e = absurd (omega (arith, e))
dropped_front (x ∷ xs) ys (suc n) e = dropped_front xs ys n (omega (arith, e))

-- the oldest lists are at the end of the stack
record IsBelow (k : ℕ) (tss : List (List Task)) : Type 0 where
  pub above : List Task
  pub whole : stack_of tss ≡ above ++ stack_of (take k tss)
  pub more : k < length tss → 0 < length above
  pub none : length tss ≤ k → length above ≡ 0

is_below : (k : ℕ) (tss : List (List Task)) → All (λ ts. 0 < length ts) tss → IsBelow k tss
is_below zero [] a = record { above = []; whole = refl; more = λ l. absurd (omega (arith, l)); none = λ l. refl }
is_below zero (ts ∷ tss) a =
    let h : 0 < length ts = All-head (λ ts. 0 < length ts) ts tss a in
    let e = length-append (stack_of tss) ts in
    record { above = stack_of tss ++ ts; whole = sym (append-nil (stack_of tss ++ ts)); more = λ l. omega (arith, h, e); none = λ l. absurd (omega (arith, l)) }
is_below (suc k) [] a = record { above = []; whole = refl; more = λ l. absurd (omega (arith, l)); none = λ l. refl }
is_below (suc k) (ts ∷ tss) a =
    let r = is_below k tss (All-tail (λ ts. 0 < length ts) ts tss a) in
    record {
      above = r.above;
      whole = ap (λ l. l ++ ts) r.whole ∙ append_assoc r.above (stack_of (take k tss)) ts;
      more = λ l. r.more (omega (arith, l));
      none = λ l. r.none (omega (arith, l));
    }

kept_stack : (k : ℕ) (tss : List (List Task)) → All (λ ts. 0 < length ts) tss → stack_of (take k tss) ≡ oldest (length (stack_of (take k tss))) (stack_of tss)
kept_stack k tss a =
    let r = is_below k tss a in
    let n = ap length r.whole ∙ length-append r.above (stack_of (take k tss)) in
    let m : length (stack_of tss) - length (stack_of (take k tss)) ≡ length r.above = omega (arith, n) in
    sym (ap (drop (length (stack_of tss) - length (stack_of (take k tss)))) r.whole ∙ dropped_front r.above (stack_of (take k tss)) (length (stack_of tss) - length (stack_of (take k tss))) m)

less_same : (a b c d : ℕ) → (a < b → c < d) → (b ≤ a → d ≤ c) → nat_lt a b ≡ nat_lt c d
less_same a b c d f g = go (nat_lt a b) refl
  where
    go : (t : Bool) → nat_lt a b ≡ t → nat_lt a b ≡ nat_lt c d
    go true e =
        let l : a < b = grind (arith, nat_tests, e) in
        let m = f l in
        let q : nat_lt c d ≡ true = grind (arith, nat_tests, m) in
        e ∙ sym q
    go false e =
        let l : b ≤ a = grind (arith, nat_tests, e) in
        let m = g l in
        let q : nat_lt c d ≡ false = grind (arith, nat_tests, m) in
        e ∙ sym q

kept_lost : (k : ℕ) (tss : List (List Task)) → All (λ ts. 0 < length ts) tss → nat_lt k (length tss) ≡ nat_lt (length (stack_of (take k tss))) (length (stack_of tss))
kept_lost k tss a =
    let r = is_below k tss a in
    let n = ap length r.whole ∙ length-append r.above (stack_of (take k tss)) in
    less_same k (length tss) (length (stack_of (take k tss))) (length (stack_of tss)) (λ l. let m = r.more l in omega (arith, n, m)) (λ l. let m = r.none l in omega (arith, n, m))

taken_count : {X Y : Type 0} (b : ℕ) (mark : ℕ) (tss : List X) (cs : List Y) → b ≤ mark → b + length tss ≡ length cs → b + length (take (mark - b) tss) ≡ length (take mark cs)
taken_count b mark tss cs l e = let p = short (mark - b) tss in let q = short mark cs in omega (arith, l, e, p, q)
  where
    short : {X : Type 0} (n : ℕ) (xs : List X) → length (take n xs) ≡ min n (length xs)
    short zero xs = omega arith
    short (suc n) [] = omega arith
    short (suc n) (x ∷ xs) = let h = short n xs in omega (arith, h)

pub cut_tasks : (m n : Machine) (mark keep : ℕ) (tss : List (List Task)) → n.denied ≡ m.denied → n.choices.items ≡ take mark m.choices.items →
    n.counts.lost ≡ (m.counts.lost || nat_lt mark (length m.choices.items)) → HaveTasks m tss → IsMarkOf m tss mark keep →
    CutsTasks m n mark keep tss
cut_tasks m n mark keep tss d c l h k =
    let b = base_of m.denied in
    let j = mark - b in
    let w = h.count in
    let u = k.0 in
    record {
      have = record { count = ap (λ o. base_of o + length (take j tss)) d ∙ taken_count b mark tss m.choices.items u w ∙ ap length (sym c); tasks = all_taken (λ ts. 0 < length ts) j tss h.tasks };
      stack = kept_stack j tss h.tasks ∙ ap (λ i. oldest i (stack_of tss)) (sym k.1);
      lost =
          (let e : nat_lt mark (length m.choices.items) ≡ nat_lt j (length tss) = less_same mark (length m.choices.items) j (length tss) (λ q. omega (arith, q, u, w)) (λ q. omega (arith, q, u, w)) in
          l ∙ ap (λ t. m.counts.lost || t) (e ∙ kept_lost j tss h.tasks ∙ ap (λ i. nat_lt i (length (stack_of tss))) (sym k.1)));
    }
