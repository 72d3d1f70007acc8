-- One query of any script: 8 where its reply has over 4,096 bytes, and else its part, which is that of some values; where its lines are the demand's, of what the vehicle gave.
use mathlib.Core.Path.{◌≡◌, refl, sym, ap, subst, ◌∙◌}
use mathlib.Core.Bool.{true, false}
use mathlib.Core.List.{List, [], ◌∷◌, ◌++◌}
use Prim.Native.Nat.{ℕ, ◌≤◌, ◌<◌}
use native.Mathlib.Omega.{arith}
use lib.ListN.{length}
use lib.Seq.{sets}
use Rattle.group.specs.Format.{Each}
use Rattle.wire.specs.Answer.{Answer, result, refused}
use Rattle.wire.specs.Text.{same}
use Rattle.wire.proofs.Cases.{by_test, from_no, and_both}
use Rattle.wire.proofs.TextLaws.{same_true}
use Rattle.wire.proofs.All.{Bytes}
use Rattle.line_list.specs.Lines.{Line, Fits, lines_bytes}
use Rattle.value.specs.Values.{Value, part_format}
use Rattle.value.proofs.RecordLaws.{ValuesFit}
use Rattle.reply.specs.Reply.{reply_text}
use Rattle.reply.proofs.ByteLaws.{reply_body}
use Rattle.reply_lines.specs.Lines.{unspaced}
use Rattle.reply_values.specs.Values.{answer_order}
use Rattle.query.specs.Query.{text_of_query}
use Rattle.query.proofs.QueryLaws.{query_some}
use Rattle.server_state.specs.State.{may_try}
use Rattle.client_session.specs.declared.Command.{Command}
use Rattle.client_session.specs.declared.Command.TheVariants as command
use Rattle.client_session.specs.declared.Under.TheVariants as under
use Rattle.client_session.specs.Session.{Client}
use Rattle.client_session.specs.Call.{Progress, sent, complete, ClientSaid, client_saying}
use Rattle.server_session.specs.Session.{Session}
use Rattle.client_session.specs.Start.{repeats, request, send_query}
use Rattle.client_session.specs.Piece.{reply_in}
use Rattle.client_session.proofs.StartLaws.{query_repeated, query_in_full}
use Rattle.client_session.proofs.PiecesLaws.{Awaiting, prompted}
use Rattle.bench.specs.Script.{Query}
use Rattle.bench.specs.Exchange.{Exchanged, exchanged}
use Rattle.bench.specs.Run as run
use Rattle.bench.specs.Run.{send_room, reply_room, Bench, Round, round, onward, start_says, Part, part_of, finished, part}
use Rattle.line_list.proofs.LineLaws.{AllBytes}
use Rattle.agreement.specs.Lines.{GoodLines}
use Rattle.agreement.specs.Vehicle.{given}
use Rattle.agreement.specs.Demand.{command_of}
use Rattle.agreement.proofs.Agree.{Agree}
use Rattle.agreement.proofs.Heard.{quiet, unspaced_some, unspaced_short, heard, heard_again}
use Rattle.agreement.proofs.Finished.{finish_lines}
use Rattle.agreement.proofs.Started.{settled, Between}
use Rattle.agreement.proofs.Replied as replied

-- What a script says of each of its queries.
pub record Ready (q : Query) : Type 0 where
  pub some : 0 < length q.pids
  pub few : length q.pids ≤ 6
  pub counted : q.count ≤ 256
  pub pids : Bytes q.pids
  pub fit : Each Fits q.lines
  pub many : length q.lines ≤ 64
  pub bytes : AllBytes q.lines

-- The query has a part, of some values, and the sessions stand between queries again; its own text less spaces was handed out. Where its lines keep to the lengths of a run,
-- with which those that the session knew agree, the values are what the vehicle gave, and the lengths that it then knows agree too.
pub record Gives (lengths : List ℕ) (q : Query) (p : Part) : Type 0 where
  pub values : List Value
  pub fit : ValuesFit values
  pub answer : p.answer ≡ result (part_format.write values)
  pub handed : p.handed ≡ command_of q ∷ []
  pub between : Between p.bench
  pub gave : (L : ℕ → ℕ) → Agree L lengths → GoodLines L q.lines → (values ≡ answer_order (given q.lines)) × Agree L p.bench.client.server.pid_lengths

-- The reply is too long.
pub record Fails (q : Query) (p : Part) : Type 0 where
  pub answer : p.answer ≡ refused 8
  pub handed : p.handed ≡ command_of q ∷ []

-- One of the two, by how long the reply is.
pub record Outcome (lengths : List ℕ) (q : Query) (p : Part) : Type 0 where
  pub gives : length (reply_text false false true q.lines) ≤ 4096 → Gives lengths q p
  pub fails : 4096 < length (reply_text false false true q.lines) → Fails q p

-- ---- one query

module _ (pids : List ℕ) (count : ℕ) (ls : List Line) where
  abbrev query : Query
  query = record { pids = pids; count = count; lines = ls }

  abbrev text : List ℕ
  text = text_of_query pids count

  abbrev reply : List ℕ
  reply = reply_text false false true ls

  abbrev body : List ℕ
  body = reply_body false false true ls

  abbrev list : List ℕ
  list = lines_bytes ls

  -- what the server makes of it, in full or repeated
  abbrev handing : Exchanged
  handing = record { next = quiet (unspaced text); text = reply; handed = unspaced text ∷ [] }

  -- the reply is complete
  abbrev complete_round : Client → List ℕ → List ℕ → Round
  complete_round c store ks = record {
    answer = result complete;
    text = [];
    bench = record { client = c; store = store; server = quiet (unspaced text); lengths = ks };
    handed = unspaced text ∷ [];
  }

  -- a number ends the query
  stops : (a : Answer Progress) (sends : List ℕ) (b : Bench) (h : List (List ℕ)) → (a ≡ refused 8) × (sends ≡ []) → h ≡ unspaced text ∷ [] →
      Fails query (finished (onward 1 (record { answer = a; text = sends; bench = b; handed = h }) list))
  stops (refused n) [] b h (q, _) r = record { answer = let e : n ≡ 8 = cc in ap refused e; handed = r }
  stops (refused n) (x ∷ s) b h (_, q) r = from_no cc
  stops (result p) sends b h (q, _) r = from_no cc

  module _ (ok : Ready query) where
    finishes : (c : Client) (store ks : List ℕ) → c.under ≡ under.Complete → c.server.framing ≡ true → c.query.pids ≡ pids → 4096 ≤ length store →
        reply_in c store ≡ reply → c.last ≡ text → Gives c.server.pid_lengths query (finished (complete_round c store ks))
    finishes c store ks u f p size r last =
        let g = finish_lines c store ls (rw u) size f r ok.fit ok.bytes (rw p ok.pids) in
        let o = g.over in
        record {
          values = g.values;
          fit = g.fit;
          answer = λ i. part_of (g.answer i) (g.text i);
          handed = refl;
          between = record {
            turn = o.under;
            framing = o.framing ∙ f;
            size = size;
            last = unspaced text;
            server = refl;
            linked = λ h. ap unspaced (sym (o.last ∙ last));
          };
          gave = g.gave;
        }

    -- the client has started the query, and waits for its reply
    module _ (c : Client) (k : Command) (store ks server command : List ℕ) where
      abbrev taken : Round
      taken = round (replied.bench pids count ls c k store ks server command) command list

      module _ (e : exchanged reply_room (quiet server) command list ≡ handing) (w : Awaiting send_room k (replied.asks pids count ls c k) store []) where
        fails : 4096 < length reply → Fails query (finished (onward 1 taken list))
        fails h =
            stops taken.answer taken.text taken.bench taken.handed (replied.reply_fails pids count ls c k store ks server command handing e refl w h)
            (ap (λ (x : Exchanged). x.handed) e)

        gives : (lengths : List ℕ) (d : Client) (ks' : List ℕ) → length reply ≤ 4096 →
            settled k (replied.bench pids count ls c k store ks server command) command list handing body ≡ complete_round d (sets store 0 (prompted body)) ks' →
            Gives lengths query (finished (complete_round d (sets store 0 (prompted body)) ks')) → Gives lengths query (finished (onward 1 taken list))
        gives lengths d ks' h q g =
            subst (λ (t : Round). Gives lengths query (finished (onward 1 t list))) (sym (replied.reply_comes pids count ls c k store ks server command handing e refl w h ∙ q)) g

    module _ (c : Client) (store ks server : List ℕ) (m : Between (record { client = c; store = store; server = quiet server; lengths = ks })) where
      abbrev lengths : List ℕ
      lengths = c.server.pid_lengths

      -- what comes of a start
      abbrev Comes : ClientSaid → Type 0
      Comes s = Outcome lengths query (finished (run.asking (record { client = c; store = store; server = quiet server; lengths = ks }) s list))

      abbrev in_full : ClientSaid
      in_full = client_saying sent (replied.asks pids count ls c command.Query) (text ++ (13 ∷ []))

      abbrev by_cr : ClientSaid
      by_cr = client_saying sent (replied.asks pids count ls c command.Repeat) (13 ∷ [])

      abbrev held : List ℕ
      held = sets store 0 (prompted body)

      size : 4096 ≤ length held
      size = replied.still_size pids count ls store m.size

      stands : (d : Client) → d.got ≡ length (prompted body) → length reply ≤ 4096 → reply_in d held ≡ reply
      stands = replied.stands pids count ls store m.size

      in_full_lem : Comes in_full
      in_full_lem =
          let x = heard pids count ok.few ok.counted server ls ok.fit ok.many in
          let d = replied.fully pids count ls c in
          let w = replied.waits command.Query (replied.asks pids count ls c command.Query) store refl refl refl m.size in
          record {
            gives = λ h.
                gives c command.Query store ks server (text ++ (13 ∷ [])) x w lengths d _ h refl
                (finishes d held _ refl m.framing refl size (stands d refl h) refl);
            fails = fails c command.Query store ks server (text ++ (13 ∷ [])) x w;
          }

      -- a bare CR: the server repeats the last query, answered or not
      repeated : c.last ≡ text → Comes by_cr
      repeated last =
          let there : 0 < length c.last = rw last (omega (arith, query_some pids count)) in
          let linked : server ≡ unspaced text = ap (λ (s : Session). s.state.last) m.server ∙ m.linked there ∙ ap unspaced last in
          let x : exchanged reply_room (quiet server) (13 ∷ []) list ≡ handing =
          rw linked (heard_again (unspaced text) (unspaced_some pids count) (unspaced_short pids count ok.few) ls ok.fit ok.many) in
          let d = replied.again pids count ls c in
          let w = replied.waits command.Repeat (replied.asks pids count ls c command.Repeat) store refl refl refl m.size in
          record {
            gives = λ h.
                gives c command.Repeat store ks server (13 ∷ []) x w lengths d _ h (replied.repeat_complete pids count ls c store ks server handing)
                (finishes d held _ refl m.framing refl size (stands d refl h) last);
            fails = fails c command.Repeat store ks server (13 ∷ []) x w;
          }

      asked : Comes (start_says c pids count)
      asked =
          let q = request pids count (replied.several pids) in
          let s : start_says c pids count ≡ send_query c q = replied.starts c pids count (rw m.turn) ok.some ok.few in
          by_test (repeats c q)
          (λ e.
          let last : c.last ≡ text = same_true c.last text (and_both (may_try c.server.repeat) (same c.last text) e).1 in
          subst Comes (sym (s ∙ query_repeated c q e)) (repeated last))
          (λ e. subst Comes (sym (s ∙ query_in_full c q e)) in_full_lem)

-- ---- a query of a run

pub outcome : (b : Bench) (q : Query) → Between b → Ready q → Outcome b.client.server.pid_lengths q (part b q)
unfolding part
outcome b q m ok =
    let plain : b ≡ record { client = b.client; store = b.store; server = quiet m.last; lengths = b.lengths } =
    λ i. record { client = b.client; store = b.store; server = m.server i; lengths = b.lengths } in
    subst (λ (b : Bench). Outcome b.client.server.pid_lengths q (finished (run.asking b (start_says b.client q.pids q.count) (lines_bytes q.lines)))) (sym plain)
    (asked q.pids q.count q.lines ok b.client b.store b.lengths m.last (subst Between plain m))
