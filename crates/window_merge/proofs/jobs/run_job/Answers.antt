use Rattle.std.proofs.Common.{◌∙◌}
use Rattle.window_merge.proofs.jobs.run_job.Goals as goal

pub returns-clause-holds : goal.returns-clause-holds
returns-clause-holds g c = record {
  limit = c.run_by.ensures.limit ∙ c.requires.limit;
  words = c.run_by.ensures.words (g.X.Device.meaning c.args.world.now.device.now).count c.requires.words;
  replays = c.run_by.ensures.replays;
}
