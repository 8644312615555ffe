use mathlib.Core.Path.{sym, ap, ◌∙◌}
use Rattle.bandwidth_model.specs.Calls.{reset}
use Rattle.replay.proofs.Laws.{call_reset, call_read, call_write, call_request, call_end_window, call_device, call_wait, call_need, call_none}
use Rattle.replay.proofs.Answers.{replied_by}
use Rattle.replay.proofs.perform_one.Goals as goal

pub returns-in-0 : goal.returns-in-0
returns-in-0 c = replied_by _ _ _ _ _ _ _ _ _ _ _ _ (call_reset _ _ _ _ _ _ _ c.in-0.is ∙ ap reset (sym c.setup_at-setup.ensures)) c.reset.ensures c.reply_ack.ensures

pub returns-in-1 : goal.returns-in-1
returns-in-1 c = replied_by _ _ _ _ _ _ _ _ _ _ _ _ (call_read _ _ _ _ _ _ _ c.in-1.is) c.read.ensures c.reply_reading.ensures

pub returns-in-2 : goal.returns-in-2
returns-in-2 c = replied_by _ _ _ _ _ _ _ _ _ _ _ _ (call_write _ _ _ _ _ _ _ c.in-2.is) c.write.ensures c.reply_ack-in-2.ensures

pub returns-in-3 : goal.returns-in-3
returns-in-3 c = replied_by _ _ _ _ _ _ _ _ _ _ _ _ (call_request _ _ _ _ _ _ _ c.in-3.is) c.request.ensures c.reply_granting.ensures

pub returns-in-4 : goal.returns-in-4
returns-in-4 c = replied_by _ _ _ _ _ _ _ _ _ _ _ _ (call_end_window _ _ _ _ _ _ _ c.in-4.is) c.end_window.ensures c.reply_ack-in-4.ensures

pub returns-in-5 : goal.returns-in-5
returns-in-5 c = replied_by _ _ _ _ _ _ _ _ _ _ _ _ (call_device _ _ _ _ _ _ _ c.in-5.is) c.device_request.ensures c.reply_granting-in-5.ensures

pub returns-in-6 : goal.returns-in-6
returns-in-6 c = replied_by _ _ _ _ _ _ _ _ _ _ _ _ (call_wait _ _ _ _ _ _ _ c.in-6.is) c.wait.ensures c.reply_ack-in-6.ensures

pub returns-in-7 : goal.returns-in-7
returns-in-7 c = replied_by _ _ _ _ _ _ _ _ _ _ _ _ (call_need _ _ _ _ _ _ _ c.in-7.is) c.need.ensures c.reply_reading-in-7.ensures

pub returns-in_default : goal.returns-in_default
returns-in_default c = let r = c.in_default.in_default-own.rest in replied_by _ _ _ _ _ _ _ _ _ _ _ _ (call_none _ _ _ _ _ _ _ r.0.0.0.0.0.0.0.1 r.0.0.0.0.0.0.1 r.0.0.0.0.0.1 r.0.0.0.0.1 r.0.0.0.1 r.0.0.1 r.0.1 r.1) c.read-in_default.ensures c.reply_reading-in_default.ensures
