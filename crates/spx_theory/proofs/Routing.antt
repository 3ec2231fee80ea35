-- What a router does is a deed for each packet.
use Rattle.std.proofs.Common.{◌≡◌, ℕ, zero, suc, List, [], ◌∷◌, ◌++◌, length, map, Some, refl, sym, ◌∙◌, ap, subst, append_assoc, length-append}
use Rattle.std.proofs.lemmas.List.{append-nil}
use Rattle.ipx_wire.specs.declared.address.Network.{Network}
use Rattle.ipx_wire.specs.declared.address.Node.{Node}
use Rattle.spx_theory.specs.Note.{Note}
use Rattle.spx_theory.specs.Scan.{Each}
use Rattle.spx_theory.specs.Scene.{Scene, sent_off}
use Rattle.spx_theory.specs.World.{World, ParcelView, AtPort, present_of, home_at, bytes_of, segment_of, scene_of}
use Rattle.spx_theory.specs.Routers.{IsOwnLetter, told_notes, GivesOwnLetters, CarriesOn}
use Rattle.spx_theory.specs.DeedRuns.{Deeds}
use Rattle.spx_theory.proofs.Places.{get_map, map_more, map_length}
use Rattle.spx_theory.proofs.Doing.{no_deed, one_deed, then}
use Rattle.spx_theory.proofs.StillPresent.{made, made_same}
use Rattle.spx_theory.specs.Note as Notes
use Rattle.spx_theory.specs.Deeds as Scenes

abbrev all_told : Scene → ℕ → List ParcelView → Scene
all_told s router letters =
    made s.homes s.ends (s.parcels ++ map bytes_of letters) (s.segments ++ map segment_of letters) (s.log ++ told_notes router (length s.parcels) letters)

tells_all : (s : Scene) (router : ℕ) (letters : List ParcelView) → Each IsOwnLetter letters → Deeds s (all_told s router letters)
tells_all s router [] each =
    no_deed s (all_told s router [])
    (made_same s.homes s.homes s.ends s.ends (s.parcels ++ []) s.parcels (s.segments ++ []) s.segments (s.log ++ []) s.log refl refl (append-nil s.parcels) (append-nil s.segments) (append-nil s.log))
tells_all s router (l ∷ ls) each =
    let own : IsOwnLetter l = each zero l refl in
    let one : Scene = sent_off s l.segment l.bytes (Notes.Told router (length s.parcels)) in
    let first : Deeds s one = one_deed (Scenes.Tells router l.segment l.bytes) s one (record { packet = own.packet; is = own.is; kind = own.kind; after = refl }) in
    let later : Deeds one (all_told one router ls) = tells_all one router ls (λ k x at. each (suc k) x at) in
    let is : all_told one router ls ≡ all_told s router (l ∷ ls) =
    made_same s.homes s.homes s.ends s.ends ((s.parcels ++ l.bytes ∷ []) ++ map bytes_of ls) (s.parcels ++ l.bytes ∷ map bytes_of ls)
    ((s.segments ++ l.segment ∷ []) ++ map segment_of ls) (s.segments ++ l.segment ∷ map segment_of ls)
    ((s.log ++ Notes.Told router (length s.parcels) ∷ []) ++ told_notes router (length (s.parcels ++ l.bytes ∷ [])) ls) (s.log ++ told_notes router (length s.parcels) (l ∷ ls))
    refl refl (append_assoc s.parcels (l.bytes ∷ []) (map bytes_of ls)) (append_assoc s.segments (l.segment ∷ []) (map segment_of ls))
    (append_assoc s.log (Notes.Told router (length s.parcels) ∷ []) (told_notes router (length (s.parcels ++ l.bytes ∷ [])) ls)
    ∙ ap (λ n. s.log ++ Notes.Told router (length s.parcels) ∷ told_notes router n ls) (length-append s.parcels (l.bytes ∷ []))) in
    then s one (all_told s router (l ∷ ls)) first (subst (Deeds one) is later)

pub tells_deeds : (old new : World) (router : ℕ) (letters : List ParcelView) → GivesOwnLetters old router letters new → Deeds (scene_of old) (scene_of new)
tells_deeds old new router letters d =
    let is : scene_of new ≡ all_told (scene_of old) router letters =
    made_same (map home_at new.hosts) (map home_at old.hosts) (map (present_of new.hosts) new.ends) (map (present_of old.hosts) old.ends) (map bytes_of new.parcels) (map bytes_of old.parcels ++ map bytes_of letters)
    (map segment_of new.parcels) (map segment_of old.parcels ++ map segment_of letters) new.log (old.log ++ told_notes router (length (map bytes_of old.parcels)) letters)
    (ap (map home_at) d.hosts) (ap (λ hs. map (present_of hs) new.ends) d.hosts ∙ ap (map (present_of old.hosts)) d.ends)
    (ap (map bytes_of) d.parcels ∙ map_more bytes_of old.parcels letters) (ap (map segment_of) d.parcels ∙ map_more segment_of old.parcels letters)
    (d.log ∙ ap (λ n. old.log ++ told_notes router n letters) (sym (map_length bytes_of old.parcels))) in
    subst (Deeds (scene_of old)) (sym is) (tells_all (scene_of old) router letters d.own)

pub carries_deeds : (old new : World) (parcel router port : ℕ) (segment : Network) (next : Node) (bytes : List ℕ) → CarriesOn old parcel router port segment next bytes new → Deeds (scene_of old) (scene_of new)
carries_deeds old new parcel router port segment next bytes d =
    let letter : ParcelView = record { segment = segment; next = next; bytes = bytes; sent_by = Some (AtPort router port) } in
    let count : ℕ = length (map bytes_of old.parcels) in
    one_deed (Scenes.Carries parcel d.letter.segment segment bytes) (scene_of old) (scene_of new) (record {
      old = d.letter.bytes;
      comes = get_map bytes_of old.parcels parcel d.letter d.comes;
      at = get_map segment_of old.parcels parcel d.letter d.comes;
      on = d.on;
      after =
          made_same (map home_at new.hosts) (map home_at old.hosts) (map (present_of new.hosts) new.ends) (map (present_of old.hosts) old.ends) (map bytes_of new.parcels) (map bytes_of old.parcels ++ bytes ∷ [])
          (map segment_of new.parcels) (map segment_of old.parcels ++ segment ∷ []) new.log (old.log ++ Notes.Carried parcel count ∷ [])
          (ap (map home_at) d.hosts) (ap (λ hs. map (present_of hs) new.ends) d.hosts ∙ ap (map (present_of old.hosts)) d.ends)
          (ap (map bytes_of) d.parcels ∙ map_more bytes_of old.parcels (letter ∷ [])) (ap (map segment_of) d.parcels ∙ map_more segment_of old.parcels (letter ∷ []))
          (d.log ∙ ap (λ n. old.log ++ Notes.Carried parcel n ∷ []) (sym (map_length bytes_of old.parcels)));
    })
