-- The premises of delivery hold of the worked lists, each computed; so do answers and windows.
use Prim.Native.Nat.{ℕ, ◌+◌, ◌*◌, ◌<◌}
use mathlib.Core.Path.{◌≡◌, refl, sym, ap, ◌∙◌}
use mathlib.Core.Bool.{Bool, true, not, ◌||◌, ◌&&◌, and-eq-true_iff}
use mathlib.Core.List.{List, [], ◌∷◌, ◌++◌}
use lib.Dec.{eqb, ltb}
use lib.ListN.{length, drop, get_or}
use lib.Seq.{get_or-take, get_or-drop}
use borrow.Author.Tests.{eqb-true, eq-eqb, ltb-true}
use Rattle.std.specs.Prelude.{Option, Some, None}
use Rattle.bits.specs.Same.{same_list}
use Rattle.bits.proofs.SameLaws.{same-yes}
use Rattle.bits.specs.Count.{clear_below, clear_above}
use Rattle.byte_enables.specs.Enables.{enables_allowed, off, trail, total, enables_at, enabled}
use Rattle.scans.specs.Belows.{all_below, any_below, sum_below}
use Rattle.scans.specs.Merges.{merged}
use Rattle.tlp.specs.Refusals.{refusal}
use Rattle.tlp.specs.Rows.{first}
use Rattle.tlp.specs.Settings.{settings_listed}
use Rattle.tlp.specs.PacketTypes.{type_at}
use Rattle.tlp.specs.Packets.{type_of, access_of}
use Rattle.tlp.specs.Sizes.{or_most, length_at, digest_at, data_bytes, digest_bytes, bytes_called}
use Rattle.tlp.specs.Contents.{plain_bad, enables_bad, page_bad}
use Rattle.tlp_read.specs.Fields.{attributes_at, completion_at, route_at, kind_at, packet_at}
use Rattle.tlp_read.specs.Read.{hint_or_address_type_set, routing_bad, form_bad, read_packet, payload_of}
use Rattle.tlp_writable.specs.Given.{common_bad, request_bad, own_bad, reserved_given, address_route_bad, route_bad}
use Rattle.tlp_write.specs.Layout.{size_of}
use Rattle.reads_rules.specs.Requests.{request_packet, given_bad}
use Rattle.reads_rules.specs.Windows.{place_bad, shares_byte, holds_window}
use Rattle.reads_rules.specs.Validity.{valid_read, owed_of}
use Rattle.reads_rules.specs.Pieces.{is_completion, piece_of}
use Rattle.reads_rules.specs.Continuations.{byte_count_at, lower_address_at, cut_allowed, legal, status_bad, differs, clean}
use Rattle.reads_rules.specs.declared.request.ReadRequest.{ReadRequest}
use Rattle.reads_store.specs.Stores.{stored}
use Rattle.reads_words.specs.TagSets.{contains, changed, with_bit, without_bit}
use Rattle.reads_words.specs.Words.{read_at, read_of, put_read, put_words, clear_read}
use Rattle.reads_slots.specs.Records.{record_at, state_below}
use Rattle.reads.specs.declared.table.Table.{Table}
use Rattle.reads.specs.Tables.{tag_limit, new_table, state_at, with_state, valid_table, shares_open, owed_sum}
use Rattle.reads.specs.Answers.{open_number, take_number, withdraw_number}
use Rattle.reads.specs.OpenCall.{open_call}
use Rattle.reads.specs.TakeCall.{packet_taking, packet_store, take_call, take_store}
use Rattle.reads_answers.specs.Takes.{outcome, packet_answer}
use Rattle.reads.specs.OtherCalls.{withdraw_call, owed_call}
use Rattle.cuttings.specs.Lawful.{reads_as_completion, clean_packet, lawful_from, lawful_cutting}
use Rattle.reads_demands.specs.History.{Call, taking, Event, open_event, take_event, withdraw_event, owed_event, piece_tag}
use Rattle.reads_demands.specs.Demand3.{next, answered, lent, left, run, answers, reached, Item, other, piece, calls, pieces}
use Rattle.reads_demands.specs.Demand3.{Harmless, Undisturbed, SameWindow, or_last, SameStore, Delivered}
use Rattle.reads_demands.specs.Instance.{Worked, list, after_opening, window_of, Premises, whole_worked, trimmed_worked, WorkedHold}
use Rattle.reads_demands.proofs.Demand3.{demand3}

-- ---- the calls between, as a test

abbrev harmless : ℕ → Event → Bool
harmless tag (open_event q u store out x) = true
harmless tag (take_event b store x) = not (eqb (piece_tag b) tag) || ltb 0 (take_number x)
harmless tag (withdraw_event u x) = not (eqb u tag) || ltb 0 (withdraw_number x)
harmless tag (owed_event x) = true

refused : (u tag n : ℕ) → not (eqb u tag) || ltb 0 n ≡ true → u ≡ tag → 0 < n
refused u tag n h e = ltb-true 0 n (rw (eq-eqb u tag e) at h)

is-harmless : (tag : ℕ) (e : Event) → harmless tag e ≡ true → Harmless tag e
is-harmless tag (open_event q u store out x) h = tt
is-harmless tag (take_event b store x) h = refused (piece_tag b) tag (take_number x) h
is-harmless tag (withdraw_event u x) h = refused u tag (withdraw_number x) h
is-harmless tag (owed_event x) h = tt

abbrev all_harmless : ℕ → Table → List Item → Bool
all_harmless tag t [] = true
all_harmless tag t (other c ∷ is) = harmless tag (answered t c) && all_harmless tag (next t c) is
all_harmless tag t (piece b store ∷ is) = all_harmless tag (next t (taking b store)) is

is-undisturbed : (tag : ℕ) (t : Table) (is : List Item) → all_harmless tag t is ≡ true → Undisturbed tag t is
is-undisturbed tag t [] h = tt
is-undisturbed tag t (other c ∷ is) h =
    let p = (and-eq-true_iff (harmless tag (answered t c)) (all_harmless tag (next t c) is)).0 h in
    (is-harmless tag (answered t c) p.0, is-undisturbed tag (next t c) is p.1)
is-undisturbed tag t (piece b store ∷ is) h = is-undisturbed tag (next t (taking b store)) is h

-- ---- the same store, as a test

abbrev same_window : ReadRequest → List ℕ → Option (List ℕ) → Bool
same_window q last None = true
same_window q last (Some store) = eqb (length store) (length last) && same_list (window_of q store) (window_of q last)

window-byte : (q : ReadRequest) (store : List ℕ) (k : ℕ) → k < 4 * q.access.length → get_or (window_of q store) k 0 ≡ get_or store (q.start + k) 0
window-byte q store k h = get_or-take (4 * q.access.length) (drop q.start store) k 0 h ∙ get_or-drop q.start store k 0

is-same-window : (q : ReadRequest) (last : List ℕ) (x : Option (List ℕ)) → same_window q last x ≡ true → SameWindow q last x
is-same-window q last None h = tt
is-same-window q last (Some store) h =
    let p = (and-eq-true_iff (eqb (length store) (length last)) (same_list (window_of q store) (window_of q last))).0 h in
    let e = same-yes (window_of q store) (window_of q last) p.1 in
    (eqb-true _ _ p.0, λ k l. sym (window-byte q store k l) ∙ (ap (λ (w : List ℕ). get_or w k 0) e ∙ window-byte q last k l))

abbrev same_store : ReadRequest → Table → List ℕ → List Call → Bool
same_store q t last [] = true
same_store q t last (c ∷ cs) = same_window q last (lent c) && same_store q (next t c) (or_last last (left t c)) cs

is-same-store : (q : ReadRequest) (t : Table) (last : List ℕ) (cs : List Call) → same_store q t last cs ≡ true → SameStore q t last cs
is-same-store q t last [] h = tt
is-same-store q t last (c ∷ cs) h =
    let p = (and-eq-true_iff (same_window q last (lent c)) (same_store q (next t c) (or_last last (left t c)) cs)).0 h in
    (is-same-window q last (lent c) p.0, is-same-store q (next t c) (or_last last (left t c)) cs p.1)

-- ---- what is computed from the definitions
record Computed (w : Worked) : Type 0 where
  listed : settings_listed w.origin.settings ≡ true
  accepted : open_number (open_call (reached w.origin w.before) w.read w.tag (length w.store₀) (length w.out)).answer ≡ 0
  lawful : lawful_cutting w.origin w.tag w.read (pieces w.between ++ (w.last_piece ∷ [])) ≡ true
  undisturbed : all_harmless w.tag (after_opening w) w.between ≡ true
  same : same_store w.read (after_opening w) w.store₀ (calls w.between ++ (taking w.last_piece w.store ∷ [])) ≡ true
  given : answers (new_table w.origin) [] (list w) ≡ w.given
  delivers : window_of w.read (take_store (run (after_opening w) (calls w.between)) w.last_piece w.store) ≡ w.window

computed : Computed whole_worked × Computed trimmed_worked
unfolding run answers new_table state_at with_state tag_limit valid_table open_call take_call take_store packet_taking packet_store packet_answer outcome withdraw_call owed_call all_below refusal
    any_below sum_below merged stored shares_open owed_sum record_at state_below contains changed with_bit without_bit read_at read_of put_read put_words clear_read valid_read owed_of given_bad request_packet place_bad shares_byte holds_window is_completion piece_of status_bad
    differs clean legal byte_count_at lower_address_at cut_allowed lawful_from clean_packet reads_as_completion first
    settings_listed common_bad own_bad request_bad reserved_given address_route_bad route_bad read_packet payload_of hint_or_address_type_set routing_bad form_bad packet_at kind_at route_at
    completion_at attributes_at plain_bad enables_bad page_bad size_of bytes_called digest_bytes data_bytes digest_at length_at or_most type_at type_of access_of enables_allowed enabled
    enables_at total off trail clear_below clear_above
computed = (
  record { listed = refl; accepted = refl; lawful = refl; undisturbed = refl; same = refl; given = refl; delivers = refl },
  record { listed = refl; accepted = refl; lawful = refl; undisturbed = refl; same = refl; given = refl; delivers = refl },
)

premises-of : (w : Worked) → Computed w → Premises w
premises-of w c = record {
  listed = c.listed;
  accepted = c.accepted;
  lawful = c.lawful;
  undisturbed = is-undisturbed w.tag (after_opening w) w.between c.undisturbed;
  same = is-same-store w.read (after_opening w) w.store₀ (calls w.between ++ (taking w.last_piece w.store ∷ [])) c.same;
  answered = c.given;
  delivers = c.delivers;
}

pub premises : WorkedHold
premises = record { whole = premises-of whole_worked computed.0; trimmed = premises-of trimmed_worked computed.1 }

-- what the theorem then says of such a list
pub delivered : (w : Worked) → Premises w → Delivered w.read w.tag (after_opening w) w.store₀ w.between w.last_piece w.store
delivered w p =
    (demand3 w.origin (list w) p.listed).delivery w.before w.afterwards w.read w.tag w.store₀ w.out w.between w.last_piece w.store
    refl p.accepted p.lawful p.undisturbed p.same
