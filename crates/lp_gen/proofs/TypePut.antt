-- The code of a type that was put.
use Rattle.std.proofs.Common.{◌≡◌, ◌∙◌, ◌≤◌, ℕ, List, [], ◌++◌, append_assoc, ap, refl, sym, subst, arith}
use Rattle.std.specs.Prelude.{slice_index_or}
use Rattle.std.proofs.lemmas.List.{map-append}
use Rattle.lp_lemmas.proofs.Lists.{append_injective, append_nil_sym}
use Rattle.lp_calculus.specs.Types.{Ty}
use Rattle.lp_gen.specs.declared.emitter.Emitter.{Emitter}
use Rattle.lp_gen.specs.inner.Pieces.{piece, pieces, type_made}
use Rattle.lp_gen.specs.inner.Running.{Hold, Leads, IsTypePut}
use Rattle.lp_gen.specs.inner.Works.{Work, with_type, work_now, IsGrown}
use Rattle.lp_gen.proofs.Denoting.{type_leads, type_grows}
use Rattle.lp_gen.proofs.OwnSet.{type_plain}

pub type_put : (old new : Emitter) (T : Ty) (made : List ℕ) (r : ℕ) → IsGrown old new → work_now new made ≡ with_type (work_now old []) (type_made old.types T) →
    r ≡ slice_index_or made 0 0 → IsTypePut old new r T
type_put old new T made r g e at =
    let m = type_made old.types T in
    let code : pieces new.code.items ≡ pieces old.code.items ++ m.code = ap (λ (w : Work). w.code) e in
    let rest : pieces g.more ≡ m.code = (append_injective (pieces old.code.items) (pieces old.code.items) (pieces g.more) m.code refl (sym (map-append piece old.code.items g.more)
    ∙ sym (ap pieces g.code_is) ∙ code)).1 in
    let next : new.types ≡ m.next = ap (λ (w : Work). w.next) e in
    let register : r ≡ m.register = at ∙ ap (λ (w : Work). slice_index_or w.made 0 0) e in
    record {
      more = g.more;
      code_is = g.code_is;
      registers_stay = g.registers_stay;
      types_grow = let q = type_grows old.types T in omega (arith, q, next);
      plain = type_plain g.more old.types T rest;
      denotes = λ h later vars s st low k room.
          let w = type_leads h later vars T old.types s g.more st (subst (λ n. n ≤ h.self.types) next low) k rest room in
          (w.0, subst (λ n. Leads h later vars old.types n s g.more w.0) (sym next) w.1, subst (λ q. Hold w.0 q T) (sym register) w.2, let q = w.3 in omega (arith, q, register, next));
    }

-- nothing grew, and one instruction more
pub not_grown : (e : Emitter) → IsGrown e e
not_grown e = record { more = []; code_is = append_nil_sym e.code.items; registers_stay = refl }

pub grown_on : (old mid new : Emitter) → IsGrown old mid → IsGrown mid new → IsGrown old new
grown_on old mid new a b = record {
  more = a.more ++ b.more;
  code_is = b.code_is ∙ ap (λ l. l ++ b.more) a.code_is
      ∙ append_assoc old.code.items a.more b.more;
  registers_stay = b.registers_stay ∙ a.registers_stay;
}
