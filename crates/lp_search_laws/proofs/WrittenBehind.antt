-- Entries behind a unification: what is written in their goals stands there as before.
use Rattle.std.proofs.Common.{zero, List, [], ◌∷◌, map}
use Rattle.lp_lemmas.specs.Each.{EachOf}
use Rattle.lp_calculus.specs.Fill.{Binding}
use Rattle.lp_model.specs.Types.{TypeBinding, one_type}
use Rattle.lp_model.specs.Branch.{Entry, put_entry, put_entries, type_entry, type_entries}
use Rattle.lp_search_laws.specs.Behind.{behind}
use Rattle.lp_search_laws.specs.Written.{IsWrittenEntry}
use Rattle.lp_search_laws.proofs.Entries.{AreShut}
use Rattle.lp_search_laws.proofs.Written.{goal_mapped, place_mapped, put_goes, type_goes}

put_all_written : (bs : List Binding) → AreShut bs → (es : List Entry) → EachOf IsWrittenEntry es → EachOf IsWrittenEntry (put_entries bs es)
put_all_written [] s es h = h
put_all_written (b ∷ bs) s es h = put_all_written bs s.1 (map (put_entry b) es) (each es h)
  where
    each : (es : List Entry) → EachOf IsWrittenEntry es → EachOf IsWrittenEntry (map (put_entry b) es)
    each [] h = tt
    each (e ∷ es) h = (record { goal = goal_mapped _ _ _ (put_goes b s.0) zero e.goal h.0.goal; place = place_mapped _ _ _ (put_goes b s.0) zero e.assumed e.written h.0.place }, each es h.1)

type_all_written : (ts : List TypeBinding) (es : List Entry) → EachOf IsWrittenEntry es → EachOf IsWrittenEntry (type_entries ts es)
type_all_written [] es h = h
type_all_written (b ∷ ts) es h = type_all_written ts (map (type_entry b) es) (each es h)
  where
    each : (es : List Entry) → EachOf IsWrittenEntry es → EachOf IsWrittenEntry (map (type_entry b) es)
    each [] h = tt
    each (e ∷ es) h = (record { goal = goal_mapped _ _ _ (type_goes (one_type b)) zero e.goal h.0.goal; place = place_mapped _ _ _ (type_goes (one_type b)) zero e.assumed e.written h.0.place }, each es h.1)

pub written_behind : (bs : List Binding) (ts : List TypeBinding) → AreShut bs → (es : List Entry) → EachOf IsWrittenEntry es → EachOf IsWrittenEntry (behind bs ts es)
written_behind bs ts s es h = type_all_written ts (put_entries bs es) (put_all_written bs s es h)
