-- What a request does, and what it is answered with: the act on memory, session and tag, and the response's meaning, which is made of the state
-- after the act.
-- Assumes nothing.
use Rattle.std.specs.Prelude.{Bool, true, false, List, ℕ, Result, Ok, Err}
use Rattle.reason.specs.declared.Reason.{Reason}
use Rattle.session.specs.declared.Slot.{Slot}
use Rattle.session.specs.declared.Layout.{Layout}
use Rattle.rules.specs.declared.Plan.{Plan}
use Rattle.session.specs.Session.{State}
use Rattle.rules.specs.Plan.{plan_of}
use Rattle.slot.specs.Act.{Act, act_of}
use Rattle.requests.specs.declared.Request.{Request}
use Rattle.smp.specs.declared.Reply.{Reply}
use Rattle.smp.specs.Reply.{reply_map}
use Rattle.listing.specs.Listing.{list_map}
use Rattle.controller.specs.declared.Response.{Response}

-- the act of a request of the packet p
unfoldable pub act_for : Slot → State → List ℕ → Result Request Reason → Act
act_for slot st p (Err why) = Act.keep
act_for slot st p (Ok (Request.Echo text)) = Act.keep
act_for slot st p (Ok Request.Reset) = Act.end
act_for slot st p (Ok Request.Images) = Act.keep
act_for slot st p (Ok (Request.Upload u)) = act_of p u (plan_of slot st p u)
act_for slot st p (Ok Request.Erase) = Act.erase

-- the reply to an upload request that came to a plan: "the reply gives the new n"
unfoldable pub reply_to_def : Result Plan Reason → State → Reply
reply_to_def (Err why) after = Reply.Refused why
reply_to_def (Ok (Plan.Tell n)) after = Reply.Placed n
reply_to_def (Ok Plan.Append) after = Reply.Placed after.session.place
reply_to_def (Ok (Plan.Start length)) after = Reply.Placed after.session.place

-- the response to a request that found the state st and left the state after: "echo .. reply {"r": same text}"; "Reset and erase reply {"rc": 0}";
-- the state read, the list of the images
unfoldable pub response_for : Slot → State → State → List ℕ → Result Request Reason → Response
response_for slot st after p (Err why) = Response.Reply (Reply.Refused why)
response_for slot st after p (Ok (Request.Echo text)) = Response.Reply (Reply.Text text)
response_for slot st after p (Ok Request.Reset) = Response.Reply Reply.Done
response_for slot st after p (Ok Request.Images) = Response.Images
response_for slot st after p (Ok (Request.Upload u)) = Response.Reply (reply_to_def (plan_of slot st p u) after)
response_for slot st after p (Ok Request.Erase) = Response.Reply Reply.Done

-- the map of a response to the request p, where m is the memory
unfoldable pub response_map : Layout → List ℕ → List ℕ → Response → List ℕ
response_map layout m p (Response.Reply r) = reply_map p r
response_map layout m p Response.Images = list_map m layout

-- a request asks for a reset
unfoldable pub asks_reset_def : Result Request Reason → Bool
asks_reset_def (Err why) = false
asks_reset_def (Ok (Request.Echo text)) = false
asks_reset_def (Ok Request.Reset) = true
asks_reset_def (Ok Request.Images) = false
asks_reset_def (Ok (Request.Upload u)) = false
asks_reset_def (Ok Request.Erase) = false
