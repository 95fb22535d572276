-- Events that read: a slot, a header, the words behind it.
use Rattle.std.proofs.Common.{ℕ, ◌<◌, ◌≤◌, ◌+◌, ◌≡◌, ◌⊎◌, inl, inr, Bool, true, false, List, []}
use Rattle.std.proofs.Common.{◌∷◌, ◌++◌}
use Rattle.std.proofs.Common.{length, get_or, slice_get, Option, Some, None, is_none, nat_lt, arith, refl, sym, ap}
use Rattle.std.proofs.Common.{subst}
use Rattle.std.proofs.Common.{◌∙◌}
use Rattle.std.specs.List.{Contains}
use Rattle.std.specs.Option.{option_and_then}
use Rattle.std.proofs.lemmas.Bool.{and_parts, cases_Bool, cases_lt, true≢false}
use Rattle.std.proofs.lemmas.Bool.Decides.{nat_tests}
use Rattle.std.proofs.lemmas.List.{length-append, get_or_append_left, get_or_push}
use Rattle.std.proofs.lemmas.List.Elements.{Contains-push_cases}
use Rattle.tagged_word.specs.declared.word.Class.TheVariants.{Ref}
use Rattle.tagged_word.specs.Words.{bits_of}
use Rattle.tagged_word.specs.Readings.{given, reference_in, header_in}
use Rattle.tagged_word.proofs.Cells.{some_same}
use Rattle.core_parts.specs.declared.note.Note.{Note}
use Rattle.core_parts.specs.declared.note.Note.TheVariants as note
use Rattle.core_parts.specs.Lists.{is_in}
use Rattle.core_parts.proofs.Joining.{in_found, out_not_found}
use Rattle.scav_copy.specs.declared.places.Home.{Home}
use Rattle.scav_copy.specs.Places.{Fixed, size_of, StoodAt}
use Rattle.scav_copy.specs.Renamings.{RefersToAddress}
use Rattle.scav_copy.specs.Copies.{HasHeader}
use Rattle.scav_copy.proofs.Redirecting.{as_before}
use Rattle.scav_copy.proofs.Spots.{some_words}
use Rattle.scav_core.specs.declared.workers.Job.{Job}
use Rattle.scav_core.specs.declared.workers.WorkerView.{WorkerView}
use Rattle.scav_core.specs.declared.world.World.{World}
use Rattle.scav_core.specs.Worlds.{fixed_of}
use Rattle.scav_core.specs.Views.{job_for, job_at, with_header, with_body_word, loaded_view}
use Rattle.scav_core.specs.Possible.{is_live, is_part, words_wanted, header_is, may_load_slot, may_load_header}
use Rattle.scav_core.specs.Possible.{may_load_body}
use Rattle.scav_core.specs.Underway.{IsQuiet, IsAt, IsRead, HasReadCell, IsJob, HasJob, IsLogged, Underway}
use Rattle.scav_core.proofs.Enabled.{three_parts, live_stood}
use Rattle.scav_core.proofs.Keeping.{IsChange, Keeps, nothing_changes, same_work}
use Rattle.scav_core.proofs.Wanted.{wanted, part_within}

-- where an event changes neither words nor homes nor what is to be done, its view is what it owes
pub reading : {world : World} {worker : ℕ} {old new : WorkerView} → Underway world
    → slice_get world.workers worker ≡ Some old
    → new.todo ≡ old.todo → IsLogged (fixed_of world) world.words world.homes new
    → (new.out ≡ true → HasJob (fixed_of world) world.homes new.job)
    → Keeps world world.words world.homes world.board worker old new
reading {world} {worker} {old} {new} underway stood same logs jobs = record {
  stood = stood;
  change = IsChange.unchanged refl refl;
  copying = underway.copying;
  board_is = underway.board;
  work = same_work world worker old new stood same underway.work;
  stays = nothing_changes (fixed_of world) world.words world.homes;
  logs = logs;
  jobs = jobs;
}

-- what a job at the same slot has read of it is as before
pub same_slot : {fixed : Fixed} {words : List ℕ} {homes : List Home} {old new : Option Job} {slot : ℕ}
    → (IsAt old slot → IsAt new slot) → IsRead fixed words homes old slot → IsRead fixed words homes new slot
same_slot {old = old} {new} {slot} at read = record {
  place = read.place;
  stood = read.stood;
  done = elim read.done [ inl here ↦ inl (at here) | inr quiet ↦ inr quiet ];
}

-- the slot of a note
abbrev slot_of : Note → ℕ
slot_of (note.Loaded at) = at
slot_of (note.Coloured at found) = at
slot_of (note.Gave place found) = place
slot_of (note.Took place found) = place

-- notes of equal slots are of one slot
note_slot : {slot other : ℕ} → note.Loaded slot ≡ note.Loaded other → slot ≡ other
note_slot e = ap slot_of e

-- the job of a cell that was found among the cells is at the slot
given_at : (b : Bool) (job : Job) (slot : ℕ) → b ≡ true → job.slot ≡ slot → IsAt (given b job) slot
given_at true job slot t e = e
given_at false job slot t e = cc

-- a slot that refers to no cell, or to none of those, is quiet
at_or_quiet : (fixed : Fixed) (words : List ℕ) (slot : ℕ) (address : Option ℕ)
    → reference_in (get_or words slot 0) ≡ address
    → IsAt (option_and_then (λ cell. job_for fixed.cells slot cell) address) slot ⊎ IsQuiet fixed words slot
at_or_quiet fixed words slot None e = inr (λ cell refers there. let f : None ≡ Some cell = sym e ∙ refers in cc)
at_or_quiet fixed words slot (Some at) e =
    elim (cases_Bool (is_in fixed.cells at)) [
      | inl t ↦ inl (given_at (is_in fixed.cells at) _ slot t refl)
      | inr f ↦ inr (λ cell refers there.
          out_not_found fixed.cells at f (subst (Contains fixed.cells) (some_same refers e) there))
    ]

-- the job of a cell that was found among the cells is one
given_job : {world : World} (b : Bool) (slot place cell : ℕ) → Underway world
    → StoodAt (fixed_of world) world.homes slot place → RefersToAddress world.words slot cell
    → (b ≡ true → Contains world.cells cell)
    → HasJob (fixed_of world) world.homes (given b (record { slot = slot; cell = cell; header = None; body = [] }))
given_job false slot place cell underway stood refers there = tt
given_job {world} true slot place cell underway stood refers there =
    let among : Contains world.cells cell = there refl in
    let law = as_before (fixed_of world) world.words world.homes slot place cell underway.laid underway.copying stood
    refers
    among in
    record {
      place = place;
      stood = stood;
      referred = subst (λ (word : ℕ). reference_in word ≡ Some cell) law.0 refers;
      among = among;
      read = HasReadCell.nothing refl refl;
    }

-- the job of a slot that was read is one
job_is_one : {world : World} (slot place : ℕ) (address : Option ℕ) → Underway world
    → StoodAt (fixed_of world) world.homes slot place → reference_in (get_or world.words slot 0) ≡ address
    → HasJob (fixed_of world) world.homes (option_and_then (λ cell. job_for world.cells slot cell) address)
job_is_one slot place None underway stood e = tt
job_is_one {world} slot place (Some cell) underway stood e =
    given_job (is_in world.cells cell) slot place cell underway stood e (in_found world.cells cell)

-- a slot that was logged before the worker took one on is quiet
idle_quiet : {fixed : Fixed} {words : List ℕ} {homes : List Home} {new : Option Job} {slot : ℕ}
    → IsRead fixed words homes None slot → IsRead fixed words homes new slot
idle_quiet read = same_slot (λ none. absurd none) read

-- a view by its parts
abbrev pub made : Bool → Option Job → List ℕ → List Note → WorkerView
made out job todo log = record { out = out; job = job; todo = todo; log = log }

-- a slot is read
pub slot_loaded : {world : World} (worker slot : ℕ) (out : Bool) (job : Option Job) (todo : List ℕ) (log : List Note)
    → Underway world → slice_get world.workers worker ≡ Some (made out job todo log)
    → (view_in : Contains world.workers (made out job todo log)) → may_load_slot world slot (made out job todo log)
    ≡ true
    → Keeps world world.words world.homes world.board worker (made out job todo log)
    (loaded_view world.cells (made out job todo log) slot (get_or world.words slot 0))
slot_loaded {world} worker slot out (Some job) todo log underway stood inside may =
    absurd (true≢false (sym (three_parts (is_none (Some job)) (is_live (fixed_of world) world.homes slot)
    (nat_lt slot (length world.words)) may).0))
slot_loaded {world} worker slot out None todo log underway stood inside may =
    let fixed = fixed_of world in
    let found : ℕ = get_or world.words slot 0 in
    let parts = three_parts true (is_live fixed world.homes slot) (nat_lt slot (length world.words)) may in
    let live = live_stood fixed world.homes slot parts.1 in
    reading underway stood refl
    (λ other there. elim (Contains-push_cases log (note.Loaded slot) (note.Loaded other) there) [
      | inl before ↦ idle_quiet (underway.logs (made out None todo log) inside other before)
      | inr same ↦ subst (IsRead fixed world.words world.homes (job_at world.cells slot found)) (note_slot same)
          (record {
            place = live.0;
            stood = live.1;
            done = at_or_quiet fixed world.words slot (reference_in found) refl;
          })
    ])
    (λ still. job_is_one slot live.0 (reference_in found) underway live.1 refl)

-- what a word that stands for a header gives: the header as before, or the reference to the home
header_read : {fixed : Fixed} {words : List ℕ} {homes : List Home} (slot cell : ℕ) → 1 ≤ size_of fixed cell
    → HasHeader fixed words homes cell
    → HasReadCell fixed homes (record { slot = slot; cell = cell; header = Some (get_or words cell 0); body = [] })
header_read slot cell some (HasHeader.forwarded home there of is) =
    HasReadCell.forwarded home there of (ap (λ (x : ℕ). Some x) is)
header_read slot cell some (HasHeader.unmoved none is) =
    HasReadCell.some (ap (λ (x : ℕ). Some x) is) (omega (arith, some)) (λ offset less. absurd (omega arith))

-- the header of a job that has none is read
job_header : {world : World} (job : Job) → Underway world → IsJob (fixed_of world) world.homes job
    → is_none job.header ≡ true → HasReadCell (fixed_of world) world.homes job
    → HasReadCell (fixed_of world) world.homes (record job { header = Some (get_or world.words job.cell 0) })
job_header {world} job underway is unread (HasReadCell.nothing none empty) =
    let some : 1 ≤ size_of (fixed_of world) job.cell = some_words job.cell underway.laid is.among in
    subst (λ (body : List ℕ). HasReadCell (fixed_of world) world.homes
    (record { slot = job.slot; cell = job.cell; header = Some (get_or world.words job.cell 0); body = body }))
    (sym empty)
    (header_read job.slot job.cell some (underway.copying.headers job.cell is.among))
job_header job underway is unread (HasReadCell.some header within same) =
    absurd (true≢false (sym unread ∙ ap (λ (o : Option ℕ). is_none o) header))
job_header job underway is unread (HasReadCell.forwarded home there of header) =
    absurd (true≢false (sym unread ∙ ap (λ (o : Option ℕ). is_none o) header))

-- a job with another header or body is one, if it has read that
pub read_on : {fixed : Fixed} {homes : List Home} {job : Job} (header : Option ℕ) (body : List ℕ)
    → IsJob fixed homes job
    → HasReadCell fixed homes (record job { header = header; body = body })
    → IsJob fixed homes (record job { header = header; body = body })
read_on header body is read =
    record { place = is.place; stood = is.stood; referred = is.referred; among = is.among; read = read }

-- a header is read
pub header_loaded : {world : World} (worker : ℕ) (out : Bool) (job : Job) (todo : List ℕ) (log : List Note)
    → Underway world → slice_get world.workers worker ≡ Some (made out (Some job) todo log)
    → Contains world.workers (made out (Some job) todo log) → out ≡ true → may_load_header world job ≡ true
    → Keeps world world.words world.homes world.board worker (made out (Some job) todo log)
    (made out (with_header (Some job) (get_or world.words job.cell 0)) todo log)
header_loaded {world} worker out job todo log underway stood inside is may =
    let has : IsJob (fixed_of world) world.homes job = underway.jobs (made out (Some job) todo log) inside is in
    reading underway stood refl
    (λ slot there. same_slot (λ at. at) (underway.logs (made out (Some job) todo log) inside slot there))
    (λ still. read_on (Some (get_or world.words job.cell 0)) job.body has
    (job_header job underway has
    (and_parts (is_none job.header) (nat_lt job.cell (length world.words)) may).0 has.read))

-- the reference to a cell is no header
pub reference_is_no_header : (at : ℕ) → header_in (bits_of (Ref at)) ≡ None
reference_is_no_header at = grind (arith, nat_tests)

-- nothing is wanted of a cell by a reference
pub none_wanted : (layouts : List ℕ) (at : ℕ) (body : List ℕ) → words_wanted layouts (bits_of (Ref at)) body ≡ None
none_wanted layouts at body = ap (option_and_then _) (reference_is_no_header at)

-- the word behind those that were read is as before
next_same : {world : World} (job : Job) → Underway world → IsJob (fixed_of world) world.homes job
    → 1 + length job.body < size_of (fixed_of world) job.cell
    → get_or world.words (job.cell + 1 + length job.body) 0 ≡ get_or world.before (job.cell + 1 + length job.body) 0
next_same {world} job underway is less =
    let at : job.cell + (1 + length job.body) ≡ job.cell + 1 + length job.body = omega arith in
    subst (λ (a : ℕ). get_or world.words a 0 ≡ get_or world.before a 0) at
    (underway.copying.bodies job.cell (1 + length job.body) is.among (omega arith) less)

-- a word of a list with one more is one of the list, or the last
body_more : (before : List ℕ) (first : ℕ) (body : List ℕ) (word : ℕ)
    → ((k : ℕ) → k < length body → get_or body k 0 ≡ get_or before (first + k) 0)
    → word ≡ get_or before (first + length body) 0
    → (k : ℕ) → k < length (body ++ word ∷ []) → get_or (body ++ word ∷ []) k 0 ≡ get_or before (first + k) 0
body_more before first body word same last k less =
    elim (cases_lt k (length body)) [
      | inl inside ↦ get_or_append_left body (word ∷ []) 0 k inside ∙ same k inside
      | inr past ↦
          let long : length (body ++ word ∷ []) ≡ length body + 1 = length-append body (word ∷ []) in
          let at : length body ≡ k = omega (arith, less, long, past) in
          get_or_push body word 0 k at ∙ last ∙ ap (λ (n : ℕ). get_or before (first + n) 0) at
    ]

-- the words behind the header that were read, with one more
job_body : {world : World} (job : Job) → Underway world → IsJob (fixed_of world) world.homes job
    → header_is job.header (λ header. is_part (words_wanted world.layouts header job.body) (1 + length job.body)) ≡ true
    → HasReadCell (fixed_of world) world.homes job
    → HasReadCell (fixed_of world) world.homes
    (record job { body = job.body ++ get_or world.words (job.cell + 1 + length job.body) 0 ∷ [] })
job_body {world} job underway is may (HasReadCell.nothing none empty) =
    absurd (true≢false (sym may ∙ ap (λ (o : Option ℕ). header_is o
    (λ header. is_part (words_wanted world.layouts header job.body) (1 + length job.body))) none))
job_body {world} job underway is may (HasReadCell.some header within same) =
    let fixed = fixed_of world in
    let next : ℕ = job.cell + 1 + length job.body in
    let word : ℕ = get_or world.words next 0 in
    let t : is_part (words_wanted world.layouts (get_or world.before job.cell 0) job.body) (1 + length job.body)
    ≡ true =
    ap (λ (o : Option ℕ). header_is o
    (λ head. is_part (words_wanted world.layouts head job.body) (1 + length job.body))) (sym header) ∙ may in
    let less : 1 + length job.body < size_of fixed job.cell =
    part_within (words_wanted world.layouts (get_or world.before job.cell 0) job.body) (size_of fixed job.cell) job.body
    (wanted fixed job.cell (get_or world.before job.cell 0) job.body
    (underway.laid.cells_are job.cell is.among) refl same)
    t in
    let long : length (job.body ++ word ∷ []) ≡ length job.body + 1 = length-append job.body (word ∷ []) in
    HasReadCell.some header (omega (arith, long, less))
    (body_more world.before (job.cell + 1) job.body word same (next_same job underway is less))
job_body {world} job underway is may (HasReadCell.forwarded home there of header) =
    absurd (true≢false (sym may
    ∙ ap (λ (o : Option ℕ). header_is o
    (λ head. is_part (words_wanted world.layouts head job.body) (1 + length job.body))) header
    ∙ ap (λ (o : Option ℕ). is_part o (1 + length job.body)) (none_wanted world.layouts home.to job.body)))

-- the next word of a cell is read
pub body_loaded : {world : World} (worker : ℕ) (out : Bool) (job : Job) (todo : List ℕ) (log : List Note)
    → Underway world → slice_get world.workers worker ≡ Some (made out (Some job) todo log)
    → Contains world.workers (made out (Some job) todo log) → out ≡ true → may_load_body world job ≡ true
    → Keeps world world.words world.homes world.board worker (made out (Some job) todo log)
    (made out (with_body_word (Some job) (get_or world.words (job.cell + 1 + length job.body) 0)) todo log)
body_loaded {world} worker out job todo log underway stood inside is may =
    let has : IsJob (fixed_of world) world.homes job = underway.jobs (made out (Some job) todo log) inside is in
    let word : ℕ = get_or world.words (job.cell + 1 + length job.body) 0 in
    reading underway stood refl
    (λ slot there. same_slot (λ at. at) (underway.logs (made out (Some job) todo log) inside slot there))
    (λ still. read_on job.header (job.body ++ word ∷ []) has (job_body job underway has
    (and_parts (header_is job.header
    (λ header. is_part (words_wanted world.layouts header job.body) (1 + length job.body)))
    (nat_lt (job.cell + 1 + length job.body) (length world.words)) may).0 has.read))
