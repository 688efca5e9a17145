-- How much the code of a type takes, by its pieces.
use Rattle.std.proofs.Common.{◌≡◌, ◌∙◌, ◌⊎◌, inl, inr, ℕ, suc, ◌+◌, ◌*◌, ◌<◌, ◌≤◌, List, [], ◌∷◌, ◌++◌, length, ap, refl, sym, subst, arith}
use Rattle.std.specs.Prelude.{map, slice_index_or, Vec}
use Rattle.std.specs.Global.{Global}
use Rattle.std.proofs.lemmas.List.{map-append}
use Rattle.std.proofs.lemmas.List.Sums.{sum_by-append}
use Rattle.lp_calculus.specs.Types.{Ty, Tys, var, param as type_param, con, arrow, no_types, types, tys}
use Rattle.lp_code.specs.declared.instruction.Instr.{Instr}
use Rattle.lp_code.specs.declared.instruction.Instr.TheVariants as instr
use Rattle.lp_code.specs.Length.{length_of}
use Rattle.lp_term.specs.Nodes.{Nodes, type_tree}
use Rattle.lp_gen.specs.declared.emitter.Emitter.{Emitter}
use Rattle.lp_gen.specs.declared.fault.RecordRefusal.{RecordRefusal}
use Rattle.lp_gen.specs.declared.fault.RecordRefusal.TheVariants as refusal
use Rattle.lp_gen.specs.declared.written_types.TypeTask.{TypeTask}
use Rattle.lp_gen.specs.declared.written_types.TypeTask.TheVariants as on
use Rattle.lp_gen.specs.Registers.{past, Amount, both, type_code, count_types, kind_takes, type_takes, types_take}
use Rattle.lp_gen.specs.inner.Fitting.{misfits_of, IsRefused}
use Rattle.lp_gen.specs.inner.Pieces.{Piece, type_con, type_arrow, piece, pieces, type_made, types_made}
use Rattle.lp_gen.specs.inner.Reading.{read, read_at}
use Rattle.lp_gen.specs.inner.Spending.{piece_bytes, piece_misfits, bytes_of, misfits_in, Spent, IsOver, Overflows}
use Rattle.lp_gen.specs.inner.Using.{Uses, HasNoRoom, for_types, for_bytes, for_misfits, Lacks, room, memory}
use Rattle.lp_gen.specs.inner.Works.{Work, with_type, last_of, first_of, with_constructor, with_arrow, act, done, work_now, IsGrown}

-- pieces weigh as much as this, and so many registers are made
record Weighs (n : ℕ) (code : List Piece) (next : ℕ) (a : Amount) : Type 0 where
  next_is : next ≡ n + a.types
  no_terms : a.terms ≡ 0
  bytes_are : bytes_of code ≡ a.bytes
  misfits_are : misfits_in code ≡ a.misfits

bytes_append : (p q : List Piece) → bytes_of (p ++ q) ≡ bytes_of p + bytes_of q
bytes_append p q = sum_by-append piece_bytes p q

misfits_append : (p q : List Piece) → misfits_in (p ++ q) ≡ misfits_in p + misfits_in q
misfits_append p q = sum_by-append piece_misfits p q

weighs_both : (n : ℕ) (p q : List Piece) (m k : ℕ) (a b : Amount) → Weighs n p m a → Weighs m q k b → Weighs n (p ++ q) k (both a b)
weighs_both n p q m k a b x y = record {
  next_is = let u = x.next_is in let v = y.next_is in omega (arith, u, v);
  no_terms = let u = x.no_terms in let v = y.no_terms in omega (arith, u, v);
  bytes_are = let u = x.bytes_are in let v = y.bytes_are in let w = bytes_append p q in omega (arith, u, v, w);
  misfits_are = let u = x.misfits_are in let v = y.misfits_are in let w = misfits_append p q in omega (arith, u, v, w);
}

one_weighs : (n : ℕ) (p : Piece) (a : Amount) → a.types ≡ 1 → a.terms ≡ 0 → piece_bytes p ≡ a.bytes → piece_misfits p ≡ a.misfits → Weighs n (p ∷ []) (n + 1) a
one_weighs n p a t z b f = record {
  next_is = omega (arith, t);
  no_terms = z;
  bytes_are = omega (arith, b);
  misfits_are = omega (arith, f);
}

weighs_joined : (n : ℕ) (p : List Piece) (k : ℕ) (a b c : Amount) → Weighs n p k (both a (both b c)) → Weighs n p k (both (both a b) c)
weighs_joined n p k a b c x = record {
  next_is = let u = x.next_is in omega (arith, u);
  no_terms = let u = x.no_terms in omega (arith, u);
  bytes_are = let u = x.bytes_are in omega (arith, u);
  misfits_are = let u = x.misfits_are in omega (arith, u);
}

mutual
  type_weighs : (n : ℕ) (T : Ty) → Weighs n (type_made n T).code (type_made n T).next (type_takes T)
  type_weighs n (var i) = record { next_is = omega arith; no_terms = refl; bytes_are = refl; misfits_are = refl }
  type_weighs n (type_param k) = record { next_is = omega arith; no_terms = refl; bytes_are = refl; misfits_are = refl }
  type_weighs n (con k Ts) =
      let m = types_made n Ts in
      let l = registers_as_many n Ts in
      weighs_both n m.code (type_con m.next k m.registers ∷ []) m.next (m.next + 1) (types_take Ts) (kind_takes (count_types Ts)) (types_weigh n Ts)
      (one_weighs m.next (type_con m.next k m.registers) (kind_takes (count_types Ts)) refl refl (ap (λ j. 6 + 2 * j) l) (ap (past 255) l))
  type_weighs n (arrow a b) =
      let m = type_made n a in
      let k = type_made m.next b in
      let p = type_arrow k.next m.register k.register in
      weighs_joined n (m.code ++ (k.code ++ p ∷ [])) (k.next + 1) (type_takes a) (type_takes b) (type_code 7 0)
      (weighs_both n m.code (k.code ++ p ∷ []) m.next (k.next + 1) (type_takes a) (both (type_takes b) (type_code 7 0)) (type_weighs n a)
      (weighs_both m.next k.code (p ∷ []) k.next (k.next + 1) (type_takes b) (type_code 7 0) (type_weighs m.next b) (one_weighs k.next p (type_code 7 0) refl refl refl refl)))

  types_weigh : (n : ℕ) (Ts : Tys) → Weighs n (types_made n Ts).code (types_made n Ts).next (types_take Ts)
  types_weigh n no_types = record { next_is = omega arith; no_terms = refl; bytes_are = refl; misfits_are = refl }
  types_weigh n (types T Ts) =
      let m = type_made n T in
      weighs_both n m.code (types_made m.next Ts).code m.next (types_made m.next Ts).next (type_takes T) (types_take Ts) (type_weighs n T) (types_weigh m.next Ts)

  registers_as_many : (n : ℕ) (Ts : Tys) → length (types_made n Ts).registers ≡ count_types Ts
  registers_as_many n no_types = refl
  registers_as_many n (types T Ts) = ap suc (registers_as_many (type_made n T).next Ts)

-- what is to be made only grows
record Grows (w w' : Work) : Type 0 where
  next : w.next ≤ w'.next
  bytes : bytes_of w.code ≤ bytes_of w'.code
  misfits : misfits_in w.code ≤ misfits_in w'.code

pieces_grow : (code more : List Piece) (n k : ℕ) (rs ss : List ℕ) → n ≤ k → Grows (record { code = code; made = rs; next = n }) (record { code = code ++ more; made = ss; next = k })
pieces_grow code more n k rs ss l = record {
  next = l;
  bytes = let b = bytes_append code more in omega (arith, b);
  misfits = let b = misfits_append code more in omega (arith, b);
}

act_grows : (b : Nodes) (t : TypeTask) (w : Work) → Grows w (act b t w)
act_grows b (on.Visit V) w =
    let x = type_weighs w.next (read b V) in
    let n = x.next_is in
    pieces_grow w.code (type_made w.next (read b V)).code w.next (type_made w.next (read b V)).next w.made (w.made ++ (type_made w.next (read b V)).register ∷ []) (omega (arith, n))
act_grows b (on.Parts ids at) w =
    let Ts = tys (map (λ p. read_at b at (type_tree b p.0)) ids.now) in
    let x = types_weigh w.next Ts in
    let n = x.next_is in
    pieces_grow w.code (types_made w.next Ts).code w.next (types_made w.next Ts).next w.made (w.made ++ (types_made w.next Ts).registers) (omega (arith, n))
act_grows b (on.Constructor k n) w = pieces_grow w.code (type_con w.next k (last_of n w.made) ∷ []) w.next (w.next + 1) w.made (first_of n w.made ++ w.next ∷ []) (omega arith)
act_grows b on.Arrow w =
    pieces_grow w.code (type_arrow w.next (slice_index_or (last_of 2 w.made) 0 0) (slice_index_or (last_of 2 w.made) 1 0) ∷ []) w.next (w.next + 1) w.made (first_of 2 w.made ++ w.next ∷ []) (omega arith)

done_grows : (b : Nodes) (ts : List TypeTask) (w : Work) → Grows w (done b ts w)
done_grows b [] w = record { next = omega arith; bytes = omega arith; misfits = omega arith }
done_grows b (t ∷ ts) w =
    let x = done_grows b ts w in
    let y = act_grows b t (done b ts w) in
    record {
      next = let p = x.next in let q = y.next in omega (arith, p, q);
      bytes = let p = x.bytes in let q = y.bytes in omega (arith, p, q);
      misfits = let p = x.misfits in let q = y.misfits in omega (arith, p, q);
    }

pub spent_nothing : (e : Emitter) → Spent e e
spent_nothing e = (refl, refl)

pub spent_on : (old mid new : Emitter) → Spent old mid → Spent mid new → Spent old new
spent_on old mid new x y =
    let p = x.0 in
    let q = y.0 in
    (omega (arith, p, q), y.1 ∙ x.1)

code_grown : (e : Emitter) (mid new : List Instr) (i : Instr) → mid ≡ e.code.items → new ≡ mid ++ i ∷ [] → pieces new ≡ pieces e.code.items ++ piece i ∷ []
code_grown e mid new i m n = ap pieces n ∙ map-append piece mid (i ∷ []) ∙ ap (λ l. pieces l ++ piece i ∷ []) m

-- an instruction of a type
pub one_spent : (old mid new : Emitter) (i : Instr) → mid.code.items ≡ old.code.items → mid.place ≡ old.place → new.code.items ≡ mid.code.items ++ i ∷ [] → new.place ≡ mid.place + length_of i →
    misfits_of i ≡ 0 → piece_bytes (piece i) ≡ length_of i → piece_misfits (piece i) ≡ misfits_of i → Spent old new
one_spent old mid new i m at n place fit b f =
    let p = code_grown old mid.code.items new.code.items i m n in
    let all : bytes_of (pieces new.code.items) ≡ bytes_of (pieces old.code.items) + piece_bytes (piece i) = ap bytes_of p ∙ bytes_append (pieces old.code.items) (piece i ∷ []) ∙ omega arith in
    let none : misfits_in (pieces new.code.items) ≡ misfits_in (pieces old.code.items) + piece_misfits (piece i) = ap misfits_in p ∙ misfits_append (pieces old.code.items) (piece i ∷ []) ∙ omega arith in
    (omega (arith, all, place, at, b), omega (arith, none, fit, f))

pub over_register : (old : Emitter) (w : Work) (e : RecordRefusal) → w.next ≡ old.types + 1 → IsRefused (65535 < old.types + 1) e → Overflows old w e
over_register old w refusal.Registers n p = inl (omega (arith, n, p))
over_register old w refusal.Memory n p = tt

pub over_emit : (old mid : Emitter) (w : Work) (i : Instr) (e : RecordRefusal) → mid.place ≡ old.place → w.code ≡ pieces old.code.items ++ piece i ∷ [] →
    piece_bytes (piece i) ≡ length_of i → piece_misfits (piece i) ≡ misfits_of i → IsRefused ((4294967295 < mid.place + length_of i) ⊎ (0 < misfits_of i)) e → Overflows old w e
over_emit old mid w i refusal.Memory at c b f p = tt
over_emit old mid w i refusal.Registers at c b f (inl p) =
    let all : bytes_of w.code ≡ bytes_of (pieces old.code.items) + piece_bytes (piece i) = ap bytes_of c ∙ bytes_append (pieces old.code.items) (piece i ∷ []) ∙ omega arith in
    inr (inl (omega (arith, all, at, b, p)))
over_emit old mid w i refusal.Registers at c b f (inr p) =
    let all : misfits_in w.code ≡ misfits_in (pieces old.code.items) + piece_misfits (piece i) = ap misfits_in c ∙ misfits_append (pieces old.code.items) (piece i ∷ []) ∙ omega arith in
    inr (inr (omega (arith, all, f, p)))

-- a type that was put
pub type_used : (old new : Emitter) (T : Ty) (made : List ℕ) → IsGrown old new → Spent old new → work_now new made ≡ with_type (work_now old []) (type_made old.types T) → Uses old new (type_takes T)
type_used old new T made g s e =
    let m = type_made old.types T in
    let w = type_weighs old.types T in
    let next = w.next_is in
    let none = w.no_terms in
    let stay = g.registers_stay in
    let bytes = w.bytes_are in
    let misfits = w.misfits_are in
    let code : pieces new.code.items ≡ pieces old.code.items ++ m.code = ap (λ (x : Work). x.code) e in
    let here : new.types ≡ m.next = ap (λ (x : Work). x.next) e in
    let b = ap bytes_of code ∙ bytes_append (pieces old.code.items) m.code in
    let f = ap misfits_in code ∙ misfits_append (pieces old.code.items) m.code in
    let place = s.0 in
    let same = s.1 in
    record {
      types_are = omega (arith, here, next);
      terms_are = omega (arith, stay, none);
      bytes_are = omega (arith, place, b, bytes);
      fits = omega (arith, same, f, misfits);
    }

-- one that cannot be put
pub type_lacks : (b : Nodes) (old now : Emitter) (T : Ty) (rs : List ℕ) (ts : List TypeTask) (t : TypeTask) (e : RecordRefusal) → Spent old now →
    done b ts (act b t (work_now now rs)) ≡ with_type (work_now old []) (type_made old.types T) → Overflows now (act b t (work_now now rs)) e → Lacks old (type_takes T) e
type_lacks b old now T rs ts t refusal.Memory s d o = memory refl
type_lacks b old now T rs ts t refusal.Registers s d o = room refl (over o)
  where
    grown : Grows (act b t (work_now now rs)) (with_type (work_now old []) (type_made old.types T))
    grown = subst (Grows (act b t (work_now now rs))) d (done_grows b ts (act b t (work_now now rs)))

    over : IsOver now (act b t (work_now now rs)) → HasNoRoom old (type_takes T)
    over (inl p) = for_types (let n = grown.next in let q = (type_weighs old.types T).next_is in omega (arith, n, q, p))
    over (inr (inl p)) = for_bytes (let n = grown.bytes in let q = (type_weighs old.types T).bytes_are in let a = bytes_append (pieces old.code.items) (type_made old.types T).code in
        let k = s.0 in omega (arith, n, q, a, k, p))
    over (inr (inr p)) = for_misfits (let n = grown.misfits in let q = (type_weighs old.types T).misfits_are in let a = misfits_append (pieces old.code.items) (type_made old.types T).code in
        let k = s.1 in omega (arith, n, q, a, k, p))

-- what the instructions of a constructor and of an arrow add

pub constructor_code : (e : Emitter) (k n : ℕ) (rs : List ℕ) (r : ℕ) (ts : Vec ℕ Global) → r ≡ e.types → ts.items ≡ last_of n rs →
    (with_constructor k n (work_now e rs)).code ≡ pieces e.code.items ++ piece (instr.TyCon r k ts) ∷ []
constructor_code e k n rs r ts a t = (λ i. pieces e.code.items ++ type_con (sym a i) k (sym t i) ∷ [])

pub arrow_code : (e : Emitter) (rs : List ℕ) (r x y : ℕ) → r ≡ e.types → x ≡ slice_index_or (last_of 2 rs) 0 0 → y ≡ slice_index_or (last_of 2 rs) 1 0 →
    (with_arrow (work_now e rs)).code ≡ pieces e.code.items ++ piece (instr.TyArr r x y) ∷ []
arrow_code e rs r x y a p q = (λ i. pieces e.code.items ++ type_arrow (sym a i) (sym p i) (sym q i) ∷ [])
