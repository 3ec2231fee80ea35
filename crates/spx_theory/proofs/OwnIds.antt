-- The link of an end has the end's id. If addresses differ and no end was released, ids differ too.
use Rattle.std.proofs.Common.{◌≡◌, ◌≢◌, ◌⊎◌, ℕ, List, [], ◌∷◌, ◌++◌, length, set, Option, Some, None, refl, sym, ◌∙◌, ap, subst, inl, inr}
use Rattle.std.specs.Prelude.{Contains, slice_get}
use Rattle.std.proofs.lemmas.Bool.{cases_eq}
use Rattle.std.proofs.lemmas.List.Elements.{Contains-append_left}
use Rattle.spx_link.specs.LinkView.{LinkView}
use Rattle.spx_link.specs.Offer.{take_link}
use Rattle.spx_link.specs.Poll.{poll_link}
use Rattle.spx_link.specs.Receive.{receive_link}
use Rattle.spx_theory.specs.Names.{Names, names}
use Rattle.spx_theory.specs.Addresses.{AddressesDiffer, IdsDiffer, NothingReleased}
use Rattle.spx_theory.specs.Below.{LawsBelow}
use Rattle.spx_theory.specs.Deeds.{Deed, DoesDeed, Dials, Accepts, Reads, OwesReply, Paces, AsksAgain, Gives, Rests, Sends, Takes, Overruns, Closes, Releases, Carries, Tells, Injects, Reached, begun, happened}
use Rattle.spx_theory.specs.Note.{Released}
use Rattle.spx_theory.specs.Scene.{IsFreeId, Scene, PresentEnd, IsPresent}
use Rattle.spx_theory.proofs.Along.{LogGrows, log_grows}
use Rattle.spx_theory.proofs.EntriesOfEnds.{entries_tell_ends}
use Rattle.spx_theory.proofs.Fields.{ends_of}
use Rattle.spx_theory.proofs.HeldReads.{notes_cases}
use Rattle.spx_theory.proofs.Lists.{get_last, get_set}

-- ---- the id of a link is that of its end
abbrev OwnIn : List PresentEnd → Type 0
OwnIn ends = (k : ℕ) (e : PresentEnd) (l : LinkView) → slice_get ends k ≡ Some e → e.link ≡ Some l → l.own ≡ e.own

put_own : (ends : List PresentEnd) (who : ℕ) (w : PresentEnd) → OwnIn ends → ((l : LinkView) → w.link ≡ Some l → l.own ≡ w.own) → OwnIn (set ends who w)
put_own ends who w was new k e l at is = elim (get_set ends who k w e at) [
  | inl here ↦ new l (ap (λ (x : PresentEnd). x.link) here.1 ∙ is) ∙ ap (λ (x : PresentEnd). x.own) here.1
  | inr other ↦ was k e l other.1 is
]

more_own : (ends : List PresentEnd) (w : PresentEnd) → OwnIn ends → ((l : LinkView) → w.link ≡ Some l → l.own ≡ w.own) → OwnIn (ends ++ w ∷ [])
more_own ends w was new k e l at is = elim (get_last ends w e k at) [
  | inl before ↦ was k e l before is
  | inr last ↦ new l (ap (λ (x : PresentEnd). x.link) last.1 ∙ is) ∙ ap (λ (x : PresentEnd). x.own) last.1
]

-- a link is this one, of such an id
is_this : (k l : LinkView) (own : ℕ) → Some k ≡ Some l → k.own ≡ own → l.own ≡ own
is_this k l own same is = let one : k ≡ l = cc same in ap (λ (x : LinkView). x.own) (sym one) ∙ is

-- a link of an end is replaced by one with the same names
renewed : (s : Scene) (who : ℕ) (e w : PresentEnd) (l k : LinkView) → OwnIn s.ends → IsPresent s who e l → w.link ≡ Some k → w.own ≡ e.own → names k ≡ names l → OwnIn (set s.ends who w)
renewed s who e w l k was stands is own same = put_own s.ends who w was (λ m is'.
    is_this k m w.own (sym is ∙ is') (ap (λ (n : Names). n.own) same ∙ was who e l stands.there stands.link ∙ sym own))

own_next : (laws : LawsBelow) (s s' : Scene) (deed : Deed) → DoesDeed deed s s' → OwnIn s.ends → OwnIn s'.ends
own_next laws s s' (Dials host id socket to buffers now) does was = subst OwnIn (sym (ap ends_of does.after)) (more_own s.ends _ was (λ l is. is_this _ l id is refl))
own_next laws s s' (Accepts host id socket parcel buffers now) does was = subst OwnIn (sym (ap ends_of does.after)) (more_own s.ends _ was (λ l is. is_this _ l id is refl))
own_next laws s s' (Reads who parcel) does was =
    let n = laws.names.reads does.link does.header does.body in
    let k : LinkView = (receive_link does.link does.header does.body).1 in
    let own : k.own ≡ does.link.own = elim (notes_cases (receive_link does.link does.header does.body).0 who parcel does.read) [
      | inl joins ↦ ap (λ (x : Names). x.own) (n.joins joins.0).1
      | inr gets ↦ ap (λ (x : Names). x.own) (n.reads gets.0 does.read).1
    ] in
    subst OwnIn (sym (ap ends_of does.after)) (put_own s.ends who _ was (λ m is. is_this k m does.stand.own is (own ∙ was who does.stand does.link does.stands.there does.stands.link)))
own_next laws s s' (OwesReply who) does was = subst OwnIn (sym (ap ends_of does.after)) (renewed s who does.stand _ does.link _ was does.stands refl refl refl)
own_next laws s s' (Paces who window manual) does was = subst OwnIn (sym (ap ends_of does.after)) (renewed s who does.stand _ does.link _ was does.stands refl refl refl)
own_next laws s s' (AsksAgain who place) does was = subst OwnIn (sym (ap ends_of does.after)) (renewed s who does.stand _ does.link _ was does.stands refl refl refl)
own_next laws s s' (Gives who now segment bytes) does was =
    subst OwnIn (sym (ap ends_of does.after)) (renewed s who does.stand _ does.link (poll_link does.link now).1 was does.stands refl refl (laws.names.polls does.link now).keeps)
own_next laws s s' (Rests who now) does was =
    subst OwnIn (sym (ap ends_of does.after)) (renewed s who does.stand _ does.link (poll_link does.link now).1 was does.stands refl refl (laws.names.polls does.link now).keeps)
own_next laws s s' (Sends who m) does was = subst OwnIn (sym (ap ends_of does.after)) (renewed s who does.stand _ does.link _ was does.stands refl refl refl)
own_next laws s s' (Takes who u) does was = subst OwnIn (sym (ap ends_of does.after)) (renewed s who does.stand _ does.link (take_link does.link).1 was does.stands refl refl (laws.names.takes does.link))
own_next laws s s' (Overruns who u) does was = subst OwnIn (sym (ap ends_of does.after)) (renewed s who does.stand _ does.link _ was does.stands refl refl (laws.names.takes does.link))
own_next laws s s' (Closes who) does was = subst OwnIn (sym (ap ends_of does.after)) (renewed s who does.stand _ does.link _ was does.stands refl refl refl)
own_next laws s s' (Releases who) does was = subst OwnIn (sym (ap ends_of does.after)) (put_own s.ends who _ was (λ l is. absurd (cc is)))
own_next laws s s' (Carries from network segment bytes) does was = subst OwnIn (sym (ap ends_of does.after)) was
own_next laws s s' (Tells router segment bytes) does was = subst OwnIn (sym (ap ends_of does.after)) was
own_next laws s s' (Injects segment bytes) does was = subst OwnIn (sym (ap ends_of does)) was

pub own_along : (laws : LawsBelow) {s : Scene} → Reached s → OwnIn s.ends
own_along laws {s} (begun is) = subst OwnIn (sym is.ends) (λ k e l at. absurd (cc at))
own_along laws {s} (happened old deed reached does) = own_next laws old s deed does (own_along laws reached)

-- ---- an end after a deed was there before, or is a new one with a free id
pub record WasThere (s : Scene) (k : ℕ) (f : PresentEnd) : Type 0 where
  pub stand : PresentEnd
  pub there : slice_get s.ends k ≡ Some stand
  pub host : f.host ≡ stand.host
  pub own : f.own ≡ stand.own

pub record IsNew (s : Scene) (k : ℕ) (f : PresentEnd) : Type 0 where
  pub place : k ≡ length s.ends
  pub free : IsFreeId s f.host f.own

abbrev ComeFrom : Scene → List PresentEnd → Type 0
ComeFrom s ends = (k : ℕ) (f : PresentEnd) → slice_get ends k ≡ Some f → WasThere s k f ⊎ IsNew s k f

come_same : (s : Scene) → ComeFrom s s.ends
come_same s k f at = inl (record { stand = f; there = at; host = refl; own = refl })

come_set : (s : Scene) (who : ℕ) (e w : PresentEnd) (l : LinkView) → IsPresent s who e l → w.host ≡ e.host → w.own ≡ e.own → ComeFrom s (set s.ends who w)
come_set s who e w l stands host own k f at = elim (get_set s.ends who k w f at) [
  | inl here ↦ inl (record {
    stand = e;
    there = ap (slice_get s.ends) (sym here.0) ∙ stands.there;
    host = ap (λ (x : PresentEnd). x.host) (sym here.1) ∙ host;
    own = ap (λ (x : PresentEnd). x.own) (sym here.1) ∙ own;
  })
  | inr other ↦ inl (record { stand = f; there = other.1; host = refl; own = refl })
]

come_new : (s : Scene) (w : PresentEnd) → IsFreeId s w.host w.own → ComeFrom s (s.ends ++ w ∷ [])
come_new s w free k f at = elim (get_last s.ends w f k at) [
  | inl before ↦ inl (record { stand = f; there = before; host = refl; own = refl })
  | inr last ↦ inr (record { place = last.0; free = subst (λ (x : PresentEnd). IsFreeId s x.host x.own) last.1 free })
]

come_from : (s s' : Scene) (deed : Deed) → DoesDeed deed s s' → ComeFrom s s'.ends
come_from s s' (Dials host id socket to buffers now) does = subst (ComeFrom s) (sym (ap ends_of does.after)) (come_new s _ does.free)
come_from s s' (Accepts host id socket parcel buffers now) does = subst (ComeFrom s) (sym (ap ends_of does.after)) (come_new s _ does.free)
come_from s s' (Reads who parcel) does = subst (ComeFrom s) (sym (ap ends_of does.after)) (come_set s who does.stand _ does.link does.stands refl refl)
come_from s s' (OwesReply who) does = subst (ComeFrom s) (sym (ap ends_of does.after)) (come_set s who does.stand _ does.link does.stands refl refl)
come_from s s' (Paces who window manual) does = subst (ComeFrom s) (sym (ap ends_of does.after)) (come_set s who does.stand _ does.link does.stands refl refl)
come_from s s' (AsksAgain who place) does = subst (ComeFrom s) (sym (ap ends_of does.after)) (come_set s who does.stand _ does.link does.stands refl refl)
come_from s s' (Gives who now segment bytes) does = subst (ComeFrom s) (sym (ap ends_of does.after)) (come_set s who does.stand _ does.link does.stands refl refl)
come_from s s' (Rests who now) does = subst (ComeFrom s) (sym (ap ends_of does.after)) (come_set s who does.stand _ does.link does.stands refl refl)
come_from s s' (Sends who m) does = subst (ComeFrom s) (sym (ap ends_of does.after)) (come_set s who does.stand _ does.link does.stands refl refl)
come_from s s' (Takes who u) does = subst (ComeFrom s) (sym (ap ends_of does.after)) (come_set s who does.stand _ does.link does.stands refl refl)
come_from s s' (Overruns who u) does = subst (ComeFrom s) (sym (ap ends_of does.after)) (come_set s who does.stand _ does.link does.stands refl refl)
come_from s s' (Closes who) does = subst (ComeFrom s) (sym (ap ends_of does.after)) (come_set s who does.stand _ does.link does.stands refl refl)
come_from s s' (Releases who) does = subst (ComeFrom s) (sym (ap ends_of does.after)) (come_set s who does.stand _ does.link does.stands refl refl)
come_from s s' (Carries from network segment bytes) does = subst (ComeFrom s) (sym (ap ends_of does.after)) (come_same s)
come_from s s' (Tells router segment bytes) does = subst (ComeFrom s) (sym (ap ends_of does.after)) (come_same s)
come_from s s' (Injects segment bytes) does = subst (ComeFrom s) (sym (ap ends_of does)) (come_same s)

-- ---- if nothing was released

-- no two ends of one host have one id
abbrev OneAtHost : Scene → Type 0
OneAtHost s = (j k : ℕ) (e f : PresentEnd) → slice_get s.ends j ≡ Some e → slice_get s.ends k ≡ Some f → e.host ≡ f.host → e.own ≡ f.own → j ≡ k

has_link : (o : Option LinkView) → o ≢ None → (l : LinkView) × (o ≡ Some l)
has_link None none = absurd (none refl)
has_link (Some l) none = (l, refl)

-- an old end and a new one have different ids
apart : (laws : LawsBelow) (s : Scene) → Reached s → NothingReleased s.log → (j k : ℕ) (e f : PresentEnd) → WasThere s j e → IsNew s k f → e.host ≡ f.host → e.own ≡ f.own → ⊥
apart laws s reached stay j k e f was new host own =
    let linked : (l : LinkView) × (was.stand.link ≡ Some l) =
    has_link was.stand.link (λ gone. stay j (((entries_tell_ends laws s reached).released j was.stand was.there).0 gone)) in
    new.free j was.stand linked.0 (record { there = was.there; link = linked.1 }) (sym was.host ∙ host) (own_along laws reached j was.stand linked.0 was.there linked.1 ∙ sym was.own ∙ own)

no_end : (j : ℕ) (e : PresentEnd) → slice_get [] j ≡ Some e → ⊥
no_end j e at = cc

one_at_host : (laws : LawsBelow) {s : Scene} → Reached s → NothingReleased s.log → OneAtHost s
one_at_host laws {s} (begun is) stay j k e f at at' host own = absurd (no_end j e (ap (λ es. slice_get es j) (sym is.ends) ∙ at))
one_at_host laws {s} (happened old deed reached does) stay j k e f at at' host own =
    let g : LogGrows old s = log_grows old s deed does in
    let stay' : NothingReleased old.log = λ who here. stay who (subst (λ log. Contains log (Released who)) (sym g.is) (Contains-append_left old.log g.more (Released who) here)) in
    elim (come_from old s deed does j e at) [
      | inl was ↦ elim (come_from old s deed does k f at') [
        | inl was' ↦ one_at_host laws reached stay' j k was.stand was'.stand was.there was'.there (sym was.host ∙ host ∙ was'.host) (sym was.own ∙ own ∙ was'.own)
        | inr new' ↦ absurd (apart laws old reached stay' j k e f was new' host own)
      ]
      | inr new ↦ elim (come_from old s deed does k f at') [
        | inl was' ↦ absurd (apart laws old reached stay' k j f e was' new (sym host) (sym own))
        | inr new' ↦ new.place ∙ sym new'.place
      ]
    ]

pub ids_differ : (laws : LawsBelow) (s : Scene) → Reached s → AddressesDiffer s → NothingReleased s.log → IdsDiffer s
ids_differ laws s reached differ stay j k e f h at at' here here' own = elim (cases_eq e.host f.host) [
  | inl same ↦ one_at_host laws reached stay j k e f at at' same own
  | inr other ↦ absurd (differ e.host f.host h h here here' other refl)
]
